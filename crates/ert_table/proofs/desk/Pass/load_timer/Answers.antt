use Rattle.std.proofs.Common.{◌≡◌, ℕ, ◌∙◌, None, sym, ap, subst}
use Rattle.ert_defs.specs.{Legal.IsSlot, States.state}
use Rattle.ert_table.specs.{Places.slot_place, Settlings.{wheel_in, slot_in, read_entry, parts_in, shown_in}, Takes.Appends}
use Rattle.ert_table.proofs.{ReadActs.{read_slot, slot_word_is, parts_shown, unpacked_shown}, SlotFacts.slots_kept}
use Rattle.ert_table.proofs.desk.Pass.load_timer.Goals as goal

pub slot_place-place-requires : goal.slot_place-place-requires
slot_place-place-requires c =
    let desk = c.args.desk.now in
    let look = (state desk.settings c.args.self.now.seat.me.0.front).looked c.args.by in
    subst (λ (x : ℕ × ℕ). IsSlot desk.settings x.0 x.1) (sym c.slot-wheel.ensures)
    (read_slot desk.settings look c.args.by c.args.carry.now None (c.requires.may None).keeps)

pub load_timer_as-word-requires-clause-place : goal.load_timer_as-word-requires-clause-place
load_timer_as-word-requires-clause-place c =
    c.slot_place-place.ensures ∙ ap (λ (x : ℕ × ℕ). slot_place c.args.desk.now.settings x.0 x.1) c.slot-wheel.ensures

pub timer_of-requires : goal.timer_of-requires
timer_of-requires c =
    let g = c.args.desk.now.settings in
    let front = c.load_timer_as-word.new.self.seat.me.0.front in
    let step = c.load_timer_as-word.ensures in
    slot_word_is (state g front) (wheel_in c.args.carry.now) (slot_in c.args.carry.now) c.load_timer_as-word.result
    (slots_kept g front step.step.legal) step.word

pub returns : goal.returns
returns c =
    let g = c.args.desk.now.settings in
    let v = c.args.self.now.seat.me.0 in
    let w = c.load_timer_as-word.new.self.seat.me.0 in
    let n = c.load_timer_as-word.result in
    let carry = c.args.carry.now in
    let step = c.load_timer_as-word.ensures in
    let kept = slots_kept g w.front step.step.legal in
    let shown : c.timer_of.result ≡ shown_in (state g w.front) (wheel_in carry) (slot_in carry) =
    unpacked_shown (state g w.front) (wheel_in carry) (slot_in carry) n c.timer_of.result kept step.word
    (λ zero. c.timer_of.ensures.idle.1 zero) c.timer_of.ensures.unpacks in
    let parts : parts_in n ≡ c.timer_of.result = parts_shown (state g w.front) (wheel_in carry) (slot_in carry) n kept step.word ∙ sym shown in
    record {
      belongs = step.belongs;
      step = subst (λ x. Appends g v (read_entry g ((state g v.front).looked c.args.by) c.args.by carry x) w) parts step.step;
      shown = shown;
    }
