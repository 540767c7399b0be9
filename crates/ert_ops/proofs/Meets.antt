-- How far a service and the plain service have come with the same ops: their states differ in names alone,
-- by the labels that are bound.

use Rattle.std.proofs.Common.{◌≡◌, ℕ, ℤ, ◌≤◌, cond, List, [], ◌∷◌, length, Option, refl, sym, ap, ◌∙◌, subst, arith}
use Rattle.ert_defs.proofs.{ExpiredTimers.cond_same, Rows.{AreRows, rows_next}, Slots.{IsOrdered, ordered_next}, Standing.{AllStand, stands_next}}
use Rattle.ert_defs.specs.{Actors.has_actor, Entries.{entry_by, probe_entry}, Legal.{Can, LegalFrom}, States.{State, uses_at, next, run}, Timers.{Row, rows_after, last_after}, declared.entry.Actor.Actor}
use Rattle.ert_defs.specs.{declared.entry.Actor.TheVariants.Wheel, declared.entry.Entry.Entry, declared.settings.Settings.Settings, declared.timer.Status.Status, declared.timer.TimerRef.TimerRef}
use Rattle.ert_effects.specs.TimerCalls.{AreProbes}
use Rattle.ert_ops.proofs.{Bound.{IsName, names_are}, Shown.{Names, Shows}, Steps.{Step, as_tick, first, second, shows_next, shows_probed}}
use Rattle.ert_ops.specs.Labels.{Labels, ref_of}

-- what each legal history keeps of its timers
pub record IsKept (s : State) : Type 0 where
  pub ordered : IsOrdered s
  pub rows : (w : ℕ) → AreRows w (uses_at s w) (s.rows w)
  pub stand : AllStand s

pub kept_next : (g : Settings) (s : State) (e : Entry) → IsKept s → Can g s e → IsKept (next g s e)
kept_next g s e h can = record {
  ordered = ordered_next g s e h.ordered can;
  rows = λ w. (rows_next g w s e (record { order = h.ordered; rows = h.rows w }) can).rows;
  stand = stands_next g s e h.stand can;
}

-- each label is bound to a use of a slot that was made
pub record IsUsed (last : ℕ → ℕ → ℕ) (t : TimerRef) : Type 0 where
  pub low : 1 ≤ t.generation
  pub high : t.generation ≤ last t.wheel t.slot

abbrev pub AreUsed : (ℕ → ℕ → ℕ) → Labels → Type 0
AreUsed last [] = Unit {0}
AreUsed last (p ∷ ps) = IsUsed last p.1 × AreUsed last ps

pub used_later : (last later : ℕ → ℕ → ℕ) → ((w k : ℕ) → last w k ≤ later w k) → (ls : Labels) → AreUsed last ls → AreUsed later ls
used_later last later grows [] h = tt
used_later last later grows (p ∷ ps) h =
    (record { low = h.0.low; high = omega (arith, h.0.high, grows p.1.wheel p.1.slot) }, used_later last later grows ps h.1)

-- a service and the plain one after the same n ops, with these labels
pub record Meets (g : Settings) (n : ℕ) (ls : Labels) (s c : State) : Type 0 where
  pub kept : IsKept s
  pub shows : Shows (IsName g ls) s c
  pub used : AreUsed s.last ls
  pub lasts : (w k : ℕ) → s.last w k ≤ n
  pub few : (w : ℕ) → length (s.rows w) ≤ n

last_stays : (R : Names) (x : Step R) (w k last : ℕ) → last_after w k last (first R x) ≡ last
last_stays R (as_tick r act now) w k last = refl
last_stays R _ w k last = refl

same_last : (R : Names) (x : Step R) (g : Settings) (by : Actor) (with : Option Actor) (s : State) (w k : ℕ)
    → (next g s (entry_by by with (first R x))).last w k ≡ s.last w k
same_last R x g by with s w k =
    ap (λ (l : ℕ). cond (has_actor (entry_by by with (first R x)) (Wheel w)) l (s.last w k)) (last_stays R x w k (s.last w k))
    ∙ cond_same (has_actor (entry_by by with (first R x)) (Wheel w)) (s.last w k)

rows_stay : (R : Names) (x : Step R) (g : Settings) (look : ℤ) (w : ℕ) (rows : List Row) → rows_after g look w rows (first R x) ≡ rows
rows_stay R (as_tick r act now) g look w rows = refl
rows_stay R _ g look w rows = refl

same_rows : (R : Names) (x : Step R) (g : Settings) (by : Actor) (with : Option Actor) (s : State) (w : ℕ)
    → (next g s (entry_by by with (first R x))).rows w ≡ s.rows w
same_rows R x g by with s w =
    ap (λ (rows : List Row). cond (has_actor (entry_by by with (first R x)) (Wheel w)) rows (s.rows w)) (rows_stay R x g (s.looked by) w (s.rows w))
    ∙ cond_same (has_actor (entry_by by with (first R x)) (Wheel w)) (s.rows w)

pub few_same : (n : ℕ) (rows later : List Row) → later ≡ rows → length rows ≤ n → length later ≤ n
few_same n rows later same few = subst (λ (xs : List Row). length xs ≤ n) (sym same) few

-- they meet again after the same event
pub meets_next : (g : Settings) (n : ℕ) (ls : Labels) (x : Step (IsName g ls)) (by : Actor) (with : Option Actor) (s c : State) → Meets g n ls s c
    → Can g s (entry_by by with (first (IsName g ls) x))
    → Meets g n ls (next g s (entry_by by with (first (IsName g ls) x))) (next g c (entry_by by with (second (IsName g ls) x)))
meets_next g n ls x by with s c h can =
    let same = same_last (IsName g ls) x g by with s in
    record {
      kept = kept_next g s (entry_by by with (first (IsName g ls) x)) h.kept can;
      shows = shows_next (IsName g ls) (names_are g ls) x g by with s c h.shows;
      used = used_later s.last (next g s (entry_by by with (first (IsName g ls) x))).last (λ w k. omega (arith, same w k)) ls h.used;
      lasts = λ w k. omega (arith, same w k, h.lasts w k);
      few = λ w. few_same n (s.rows w) _ (same_rows (IsName g ls) x g by with s w) (h.few w);
    }

-- and after the service has looked at slots
pub meets_probed : (g : Settings) (n : ℕ) (ls : Labels) (by : Actor) (w k : ℕ) (found : Option Status) (s c : State) → Meets g n ls s c
    → Can g s (probe_entry by w k found) → Meets g n ls (next g s (probe_entry by w k found)) c
meets_probed g n ls by w k found s c h can =
    let same : (v j : ℕ) → (next g s (probe_entry by w k found)).last v j ≡ s.last v j = λ v j. cond_same (has_actor (probe_entry by w k found) (Wheel v)) (s.last v j) in
    record {
      kept = kept_next g s (probe_entry by w k found) h.kept can;
      shows = shows_probed (IsName g ls) g by w k found s c h.shows;
      used = used_later s.last (next g s (probe_entry by w k found)).last (λ v j. omega (arith, same v j)) ls h.used;
      lasts = λ v j. omega (arith, same v j, h.lasts v j);
      few = λ v. few_same n (s.rows v) _ (cond_same (has_actor (probe_entry by w k found) (Wheel v)) (s.rows v)) (h.few v);
    }

pub meets_probes : (g : Settings) (n : ℕ) (ls : Labels) (by : Actor) (w : ℕ) (es : List Entry) (s c : State) → AreProbes by w es
    → LegalFrom g s es → Meets g n ls s c → Meets g n ls (run g s es) c
meets_probes g n ls by w [] s c are legal h = h
meets_probes g n ls by w (e ∷ es) s c are legal h =
    let P : Entry → Type 0 = λ x. Can g s x → Meets g n ls (next g s x) c in
    let here : Meets g n ls (next g s e) c = subst P (sym are.2) (meets_probed g n ls by w are.0 are.1 s c h) legal.0 in
    meets_probes g n ls by w es (next g s e) c are.3 legal.1 here

-- as many ops later
pub meets_later : (g : Settings) (n m : ℕ) (ls : Labels) (s c : State) → n ≤ m → Meets g n ls s c → Meets g m ls s c
meets_later g n m ls s c le h =
    record {
      kept = h.kept;
      shows = h.shows;
      used = h.used;
      lasts = λ w k. omega (arith, h.lasts w k);
      few = λ w. omega (arith, h.few w);
    }

-- and the labels of both stand for timers that are the same
pub record Agrees (g : Settings) (n : ℕ) (ls cl : Labels) (s c : State) : Type 0 where
  pub meets : Meets g n ls s c
  pub names : (x : ℕ) → IsName g ls (ref_of ls x) (ref_of cl x)
