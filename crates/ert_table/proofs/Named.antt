-- References that name a timer: a slot, and a generation that a timer can have.

use Rattle.std.proofs.Common.{◌≡◌, ◌&&◌, arith, true, false, inl, inr, nat_lt}
use Rattle.std.proofs.lemmas.Bool.{and_right, cases_Bool, Decides.nat_tests}
use Rattle.ert_defs.specs.{Legal.{IsSlot, is_generation, names_timer}, declared.settings.Settings.Settings, declared.timer.TimerRef.TimerRef}

pub slot_of_named : (g : Settings) (r : TimerRef) → names_timer g r ≡ true → IsSlot g r.wheel r.slot
slot_of_named g r named = record {
  wheel_high = grind (arith, nat_tests, named);
  slot_high = grind (arith, nat_tests, named);
}

pub names_no_slot : (g : Settings) (r : TimerRef) → (IsSlot g r.wheel r.slot → ⊥) → names_timer g r ≡ false
names_no_slot g r not = elim (cases_Bool (names_timer g r)) [
  | inl named ↦ absurd (not (slot_of_named g r named))
  | inr out ↦ out
]

pub names_no_generation : (g : Settings) (r : TimerRef) → is_generation r.generation ≡ false → names_timer g r ≡ false
names_no_generation g r not = and_right (nat_lt r.wheel g.schedulers && nat_lt r.slot g.slots) (is_generation r.generation) not

pub names_both : (g : Settings) (r : TimerRef) → IsSlot g r.wheel r.slot → is_generation r.generation ≡ true → names_timer g r ≡ true
names_both g r slot is = grind (arith, nat_tests, slot.wheel_high, slot.slot_high, is)
