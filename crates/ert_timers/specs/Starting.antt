-- A start of a part: the slots that are looked at, the arming, and what follows from an exit.

use Rattle.std.specs.Prelude.{◌≡◌, ◌≢◌, ◌⊎◌, ℕ, ◌+◌, ◌<◌, ◌≤◌, Bool, true, false, cond, nat_eq, min, List, [], ◌∷◌, ◌++◌, length, Option, Some, None, IfSome, Ok}
use Rattle.std.specs.FinSet as set
use Rattle.ert_defs.specs.{Entries.{probe_entry, arm_entry, mark_entry}, Milliseconds.{natural, down, deadline_of}, States.{State, uses_at, state}, Timers.{IsNextUse, deadline_in, turned, is_taken}, declared.entry.Actor.TheVariants.Caller}
use Rattle.ert_defs.specs.{declared.entry.Entry.Entry, declared.settings.Settings.Settings, declared.timer.Start.Start, declared.timer.Status.Status, declared.timer.TimerRef.TimerRef}
use Rattle.ert_effects.specs.{TimerCalls.{AreProbes, Closes, IsInRound, Round}, WheelCalls.{orphans_by, IsSettled}, declared.answers.StartErr.StartErr}
use Rattle.ert_table.specs.{Settlings.ShownWord, Takes.{Appends, TakesPlace}, declared.view.View.View}
use Rattle.ert_timers.specs.{Changes.{MayBecomeFree, is_resting, kept, given_back}, Expiring.is_hit, Frees.TakesFree, Parts.{Part, PartStands, last_timer, slot_at}, Passed.{HasFewerRows, LosesRows, GainsOne}, declared.part.Use.Use}
use Rattle.ert_wheel.specs.Rows.{key_in}

-- a timer with this deadline is held
pub record HoldsTimer (p : Part) (timer : TimerRef) (deadline : ℕ) : Type 0 where
  pub order : ℕ
  pub low : timer.slot < length p.slots
  pub held : key_in p.keys timer.slot ≡ Some (record { deadline = deadline; order = order })
  pub named : timer ≡ last_timer p.number p.slots timer.slot

-- a timer is cancelled for the exit of its destination, or was settled before, and its slot is held free
pub record Orphans (g : Settings) (v : View) (by : ℕ) (p q : Part) (timer : TimerRef) (u : View) : Type 0 where
  pub missed : Option (Option Status)
  pub step : Appends g v (orphans_by by p.number timer missed) u
  pub settled : IsSettled missed
  pub part : q ≡ given_back p timer.slot (is_hit missed)
  pub stands : PartStands g u.front q

-- the next use of a slot that doesn't rest, for a start by its caller's last look
pub record IsUseFor (g : Settings) (s : State) (by wheel slot : ℕ) (start : Start) (next : Use) : Type 0 where
  pub wanted : ℕ
  pub due : deadline_of g start (s.looked (Caller by)) ≡ Some wanted
  pub can : IsNextUse (uses_at s wheel slot) (natural (down g (s.looked (Caller by)))) wanted next.generation
  pub deadline : next.deadline ≡ deadline_in (turned (uses_at s wheel slot)).since (natural (down g (s.looked (Caller by)))) wanted

-- a timer is armed in a slot
pub record Arms (g : Settings) (v : View) (by : ℕ) (p q : Part) (slot : ℕ) (next : Use) (start : Start) (timer : TimerRef) (u : View) : Type 0 where
  pub step : Appends g v (arm_entry by timer start) u
  pub part : q ≡ kept p slot start next q.stands
  pub stands : PartStands g u.front q
  pub holds : HoldsTimer q timer next.deadline
  pub dest : (slot_at q.slots timer.slot).dest ≡ start.dest
  pub named : timer ≡ last_timer q.number q.slots slot
  pub rows : GainsOne {E = StartErr} p q (Ok timer)

-- it is seen whether the destination had exited, and then the timer is cancelled for that
pub record Ends (g : Settings) (v : View) (by : ℕ) (p q : Part) (dest : ℕ) (timer : TimerRef) (u : View) : Type 0 where
  pub was : Bool
  pub closing : List Entry
  pub closes : Closes was by timer closing
  pub call : TakesPlace g v (mark_entry (Caller by) dest false was ∷ closing) u
  pub number : q.number ≡ p.number
  pub stands : PartStands g u.front q
  pub loses : LosesRows p q

-- the status of what is shown of a slot
abbrev pub status_shown : Option ShownWord → Option Status
status_shown None = None
status_shown (Some shown) = Some shown.0

-- the last timer of a slot takes it no more
abbrev pub IsUntaken : Settings → View → Part → ℕ → Type 0
IsUntaken g v p k = is_taken ((state g v.front).status (last_timer p.number p.slots k)) ≡ false

-- a slot was looked at: where it was found not taken, and doesn't rest at a time of so many milliseconds, it is
-- held free from then on, and no other slot is that wasn't
pub record LooksAt (g : Settings) (v : View) (by now : ℕ) (p q : Part) (k : ℕ) (u : View) : Type 0 where
  pub found : Option Status
  pub step : Appends g v (probe_entry (Caller by) p.number k found) u
  pub stands : PartStands g u.front q
  pub number : q.number ≡ p.number
  pub slots : q.slots ≡ p.slots
  pub arms : q.arms ≡ p.arms
  pub others : (j : ℕ) → j ≢ k → set.contains q.free j ≡ set.contains p.free j
  pub full : set.contains q.free k ≡ false → (is_taken found ≡ true) ⊎ (is_resting (slot_at p.slots k) now ≡ true)
  pub rested : set.contains q.free k ≡ true → is_resting (slot_at p.slots k) now ≡ false
  pub since : (j : ℕ) → (state g u.front).since p.number j ≡ (state g v.front).since p.number j
  pub loses : LosesRows p q
  -- a slot that isn't taken stays so, and this one is held free where it wasn't before and doesn't rest
  pub still : (j : ℕ) → IsUntaken g v p j → IsUntaken g u p j
  pub meets : IsUntaken g v p k → is_resting (slot_at p.slots k) now ≡ false → set.contains q.free k ≡ true
  pub next : q.next_look ≡ p.next_look

-- the entries of looks at slots in order, from one on
abbrev pub probes_from : ℕ → ℕ → ℕ → List (Option Status) → List Entry
probes_from by w k [] = []
probes_from by w k (found ∷ founds) = probe_entry (Caller by) w k found ∷ probes_from by w (k + 1) founds

-- each slot from one on was found taken, or rests, unless it is held free
abbrev pub AreFull : Part → ℕ → ℕ → List (Option Status) → Type 0
AreFull q now k [] = Unit {0}
AreFull q now k (found ∷ founds) =
    (set.contains q.free k ≡ false → (is_taken found ≡ true) ⊎ (is_resting (slot_at q.slots k) now ≡ true)) × AreFull q now (k + 1) founds

-- slots from one on, up to another, were looked at in order; of the others no slot is held free that wasn't
pub record LooksAtSome (g : Settings) (v : View) (by now : ℕ) (p q : Part) (from to : ℕ) (u : View) : Type 0 where
  pub founds : List (Option Status)
  pub call : TakesPlace g v (probes_from by p.number from founds) u
  pub count : from + length founds ≡ to
  pub stands : PartStands g u.front q
  pub number : q.number ≡ p.number
  pub slots : q.slots ≡ p.slots
  pub arms : q.arms ≡ p.arms
  pub full : AreFull q now from founds
  pub rested : (j : ℕ) → set.contains q.free j ≡ true → (set.contains p.free j ≡ true) ⊎ (is_resting (slot_at q.slots j) now ≡ false)
  pub since : (j : ℕ) → (state g u.front).since p.number j ≡ (state g v.front).since p.number j
  pub others : (j : ℕ) → (j < from) ⊎ (to ≤ j) → set.contains q.free j ≡ set.contains p.free j
  pub look : (state g u.front).looked (Caller by) ≡ (state g v.front).looked (Caller by)
  pub loses : LosesRows p q
  pub still : (j : ℕ) → IsUntaken g v p j → IsUntaken g u p j
  pub meets : (j : ℕ) → from ≤ j → j < to → IsUntaken g v p j → is_resting (slot_at p.slots j) now ≡ false → set.contains q.free j ≡ true
  pub next : q.next_look ≡ p.next_look

-- the slots of a round were found so
pub record FindsRound (by now wheel : ℕ) (q : Part) {slots looks : ℕ} (round : Round slots looks) (probes : List Entry) : Type 0 where
  pub ahead : List (Option Status)
  pub behind : List (Option Status)
  pub many_ahead : length ahead ≡ round.ahead
  pub many_behind : length behind ≡ round.behind
  pub full_ahead : AreFull q now round.from ahead
  pub full_behind : AreFull q now 0 behind
  pub probes_are : probes ≡ probes_from by wheel round.from ahead ++ probes_from by wheel 0 behind

-- the slot behind those of a round: there the next one begins
abbrev pub round_end : {slots looks : ℕ} → Round slots looks → ℕ
round_end round = cond (nat_eq round.behind 0) (round.from + round.ahead) round.behind

-- a round begins where the last one ended, which is told as its end is
pub record GoesRound (p q : Part) {slots looks : ℕ} (round : Round slots looks) : Type 0 where
  pub from : round.from ≡ min p.next_look slots
  pub some : p.next_look < slots → 1 ≤ round.ahead
  pub next : q.next_look ≡ round_end round

-- the slots of a round were looked at, where none was held free
pub record LooksAround (g : Settings) (v : View) (by now : ℕ) (p q : Part) (u : View) : Type 0 where
  pub round : Round (length p.slots) g.looks
  pub probes : List Entry
  pub finds : FindsRound by now p.number q round probes
  pub call : TakesPlace g v probes u
  pub stands : PartStands g u.front q
  pub number : q.number ≡ p.number
  pub slots : q.slots ≡ p.slots
  pub arms : q.arms ≡ p.arms
  pub rested : (j : ℕ) → set.contains q.free j ≡ true → is_resting (slot_at q.slots j) now ≡ false
  pub since : (j : ℕ) → (state g u.front).since p.number j ≡ (state g v.front).since p.number j
  pub look : (state g u.front).looked (Caller by) ≡ (state g v.front).looked (Caller by)
  pub loses : LosesRows p q
  pub goes_on : GoesRound p q round
  -- a slot among them that wasn't taken before and doesn't rest is held free
  pub meets : (j : ℕ) → IsInRound round j → IsUntaken g v p j → is_resting (slot_at p.slots j) now ≡ false → set.contains q.free j ≡ true

-- no slot is held free after looks at a round
pub record FindsNone (looks by now : ℕ) (p q : Part) (probes : List Entry) : Type 0 where
  pub round : Round (length p.slots) looks
  pub finds : FindsRound by now p.number q round probes
  pub none : (j : ℕ) → set.contains q.free j ≡ false
  pub goes_on : GoesRound p q round

-- a slot that can take a timer is found, or none is after looks at a round
abbrev pub FindsSlot : ℕ → ℕ → ℕ → Part → Part → Option ℕ → List Entry → Type 0
FindsSlot looks by now p q (Some slot) probes = MayBecomeFree q slot
FindsSlot looks by now p q None probes = FindsNone looks by now p q probes

-- slots were looked at, and one that can take a timer was found, or none
pub record TakesSlot (g : Settings) (v : View) (by now : ℕ) (p q : Part) (slot : Option ℕ) (u : View) : Type 0 where
  pub probes : List Entry
  pub are_probes : AreProbes (Caller by) p.number probes
  pub call : TakesPlace g v probes u
  pub stands : PartStands g u.front q
  pub number : q.number ≡ p.number
  pub slots : q.slots ≡ p.slots
  pub arms : q.arms ≡ p.arms
  pub finds : FindsSlot g.looks by now p q slot probes
  pub usable : IfSome slot (λ k. is_taken ((state g u.front).status (last_timer q.number q.slots k)) ≡ false)
  pub rested : IfSome slot (λ k. (turned (uses_at (state g u.front) q.number k)).since ≤ now)
  pub look : (state g u.front).looked (Caller by) ≡ (state g v.front).looked (Caller by)
  pub fewer : HasFewerRows p q
  pub frees : TakesFree p q slot
  -- one is found where that at which the looks begin wasn't taken before and doesn't rest
  pub meets : p.next_look < length p.slots → IsUntaken g v p p.next_look → is_resting (slot_at p.slots p.next_look) now ≡ false → slot ≢ None
