-- The first of a wheel's armed timers.

use Rattle.std.proofs.Common.{arith, ◌≡◌, ◌<◌, ◌∙◌, refl, sym, subst, inl, inr, ℕ, List, length, get_or, nat_lt}
use Rattle.std.proofs.lemmas.{Bool.le-ltb, Option.{slice_get_within, get_or_from_slice_get}}
use Rattle.std.specs.{BTreeMap.BTreeMap, BTreeSet.BTreeSet}
use Rattle.ert_judge.specs.{Indexes.IsFirstArmed, declared.state.wheels.Timer.Timer}
use Rattle.ert_judge.proofs.{ArmedLaws.{Waits, IsLeast, settled_if, least_armed, up_to_each, none_before}, FindLaws.{Placed, located, found_at}}

-- it stands among the timers
pub least_within : (ts : List Timer) (armed : BTreeSet (ℕ × ℕ)) (e o : ℕ) → Waits ts armed → IsLeast armed e o → o < length ts
least_within ts armed e o waits first =
    let own = least_armed ts armed e o waits first in slice_get_within ts o own.timer own.is

-- and is the first
pub first_armed : (ts now : List Timer) (m : BTreeMap (ℕ × ℕ) ℕ) (armed : BTreeSet (ℕ × ℕ)) (e o : ℕ) (t : Timer) → ts ≡ now
    → Placed ts m → Waits ts armed → IsLeast armed e o → t ≡ get_or ts o t → IsFirstArmed now t
first_armed ts now m armed e o t same placed waits first is =
    let own = least_armed ts armed e o waits first in
    let one : t ≡ own.timer = is ∙ get_or_from_slice_get ts o own.timer t own.is in
    let at = own.deadline in
    let it : IsFirstArmed ts own.timer = record {
      place = o;
      stands = own.is;
      named = found_at ts own.timer.row.timer o own.timer
          (located ts ts m own.timer.row.timer o own.timer refl placed (sym (placed o own.timer own.is)) own.is refl);
      armed = own.armed;
      first = none_before ts armed e o own.timer.row.deadline o waits first (inr (at, omega arith));
      least = settled_if (λ d. nat_lt d own.timer.row.deadline) ts (λ q u stands is_armed.
          elim (up_to_each ts armed e o waits first q u stands is_armed) [
            | inl more ↦ le-ltb u.row.deadline own.timer.row.deadline (omega arith)
            | inr level ↦ let h = level.0 in le-ltb u.row.deadline own.timer.row.deadline (omega arith)
          ]);
    } in
    subst (λ us. IsFirstArmed us t) same (subst (λ (u : Timer). IsFirstArmed ts u) (sym one) it)
