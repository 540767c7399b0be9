-- Probes of slots that have a row: the rows of settled timers go.

use Rattle.std.specs.Prelude.{◌≡◌, ◌≢◌, ◌⊎◌, ℕ, ◌+◌, ◌<◌, ◌≤◌, Bool, false, MatchBool, List, [], ◌∷◌, length, count_by, Option, Some, None}
use Rattle.std.specs.Option.{is_some}
use Rattle.ert_defs.specs.{Entries.probe_entry, Laws.is_armed, States.{State, state}, declared.entry.Actor.TheVariants.Sched, declared.settings.Settings.Settings, declared.timer.Status.Status, declared.timer.Status.TheVariants.Armed}
use Rattle.ert_effects.specs.Sleeping.{Probed, ProbesForNext, probed_entries, ProbesInOrder, FindsArmed, settled_of}
use Rattle.ert_table.specs.{Calls.IsMade, Takes.{Appends, TakesPlace}, declared.view.View.View}
use Rattle.ert_timers.specs.{Changes.given_back, NextDue.{IsNearest, IsNextHeld}, Frees.FreesRows, Parts.{Part, PartStands, last_timer}, Passed.LosesRows}
use Rattle.ert_wheel.specs.{Rows.key_in, declared.row.Key.Key}

-- so many rows have gone
abbrev pub HasLost : ℕ → Part → Part → Type 0
HasLost n p q = count_by is_some q.keys + n ≡ count_by is_some p.keys

-- a time that is answered is that of a timer which is armed; or one is armed, and it is the begin of a window; or 1,024 rows
-- have gone, or the time is before the first that the wheel hasn't passed
abbrev pub IsFoundNext : State → Part → Part → Option ℕ → Type 0
IsFoundNext s p q None = Unit {0}
IsFoundNext s p q (Some time) = IsNearest s q.number q.passed (Some time) ⊎ HasLost 1024 p q ⊎ (time < q.passed)

-- a slot with a row was probed by its scheduler: where its timer isn't armed the row goes
pub record ProbesRow (g : Settings) (v : View) (p q : Part) (k : ℕ) (armed : Bool) (u : View) : Type 0 where
  pub found : Option Status
  pub step : Appends g v (probe_entry (Sched p.number) p.number k found) u
  pub told : armed ≡ is_armed found
  pub status : found ≡ (state g u.front).status (last_timer p.number p.slots k)
  pub stands : PartStands g u.front q
  pub part : MatchBool armed (q ≡ p) (q ≡ given_back p k false)

-- each of these probes found its timer settled
abbrev pub AreSettled : List Probed → Type 0
AreSettled [] = Unit {0}
AreSettled (p ∷ probes) = (p.found ≢ Some Armed) × AreSettled probes

-- so many slots were probed, each of a settled timer, and their rows have gone
pub record DropsNext (g : Settings) (v : View) (p q : Part) (n : ℕ) (u : View) : Type 0 where
  pub probes : List Probed
  pub many : length probes ≡ n
  pub settled : AreSettled probes
  pub call : TakesPlace g v (probed_entries p.number probes) u
  pub stands : PartStands g u.front q
  pub loses : LosesRows p q
  pub frees : FreesRows p q
  pub time : q.passed ≡ p.passed
  pub fewer : HasLost n p q

-- the next due time was asked for, and slots were probed until a timer was found armed, or so many rows had gone
pub record AsksNext (g : Settings) (v : View) (p q : Part) (answer : Option ℕ) (u : View) : Type 0 where
  pub call : IsMade g v (ProbesForNext g p.number) u
  pub stands : PartStands g u.front q
  pub held : IsNextHeld q answer
  pub found : IsFoundNext (state g u.front) p q answer
  pub loses : LosesRows p q
  pub frees : FreesRows p q
  pub time : q.passed ≡ p.passed

-- the slots below one were probed that have a row, and so many rows have gone: what is left of them was found armed
pub record ProbesSome (g : Settings) (v : View) (p q : Part) (below n : ℕ) (u : View) : Type 0 where
  pub probes : List Probed
  pub order : ProbesInOrder 0 probes below
  pub settled : n ≡ settled_of probes
  pub few : n ≤ below
  pub call : TakesPlace g v (probed_entries p.number probes) u
  pub stands : PartStands g u.front q
  pub loses : LosesRows p q
  pub frees : FreesRows p q
  pub time : q.passed ≡ p.passed
  pub fewer : HasLost n p q
  pub armed : (k : ℕ) (key : Key) → k < below → key_in q.keys k ≡ Some key → FindsArmed k probes

-- all were: each row that is left is of a timer that its probe found armed
pub record ProbesRows (g : Settings) (v : View) (p q : Part) (n : ℕ) (u : View) : Type 0 where
  pub probes : List Probed
  pub order : ProbesInOrder 0 probes g.slots
  pub settled : n ≡ settled_of probes
  pub call : TakesPlace g v (probed_entries p.number probes) u
  pub fewer : HasLost n p q
  pub armed : (k : ℕ) (key : Key) → key_in q.keys k ≡ Some key → FindsArmed k probes
