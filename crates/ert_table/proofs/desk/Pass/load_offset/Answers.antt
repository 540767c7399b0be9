use Rattle.std.proofs.Common.{◌≡◌, ◌∙◌, ap, sym, subst₂, Bool, ℤ, rules, FitsSigned}
use Rattle.std.specs.Int.{w64}
use Rattle.std.proofs.lemmas.Int.{to_z-of_z}
use Rattle.ert_defs.specs.{States.state, Words.is_final}
use Rattle.ert_table.specs.{Entries.{offset_entry, offset_in, state_in, state_where}, Takes.Appends}
use Rattle.ert_table.proofs.{ClockActs.{offset_word_is, offset_is, offset_found, mode_kept, state_back}, desk.Pass.load_offset.Goals.After-state_at}
use Rattle.ert_table.proofs.desk.Pass.load_offset.Goals as goal

pub offset_of-offset-requires : goal.offset_of-offset-requires
offset_of-offset-requires c =
    let desk = c.args.desk.now in
    let step = c.load_offset_as-word.ensures in
    offset_word_is desk.settings c.load_offset_as-word.new.self.seat.me.0.front c.load_offset_as-word.result desk.checked step.step.legal step.word

-- what the word was unpacked to
found : (c : After-state_at) → let clock = (state c.args.desk.now.settings c.load_offset_as-word.new.self.seat.me.0.front).clock in
    (c.offset_of-offset.result.0 ≡ clock.offset) × (c.state_at.result ≡ clock.state)
found c =
    let g = c.args.desk.now.settings in
    let front = c.load_offset_as-word.new.self.seat.me.0.front in
    let clock = (state g front).clock in
    let step = c.load_offset_as-word.ensures in
    let unpacked = c.offset_of-offset.ensures.unpacks clock.offset (is_final clock.state)
    (offset_is g front c.args.desk.now.checked step.step.legal) (sym step.word) in (
      ap (λ (x : ℤ × Bool). x.0) unpacked,
      c.state_at.ensures ∙ (ap (λ (x : ℤ × Bool). state_where g.mode x.1) unpacked ∙ state_back g.mode clock.state (mode_kept g front step.step.legal).state),
    )

pub returns-clause-step : goal.returns-clause-step
returns-clause-step c =
    let g = c.args.desk.now.settings in
    let v = c.args.self.now.seat.me.0 in
    let w = c.load_offset_as-word.new.self.seat.me.0 in
    let n = c.load_offset_as-word.result in
    let step = c.load_offset_as-word.ensures in
    let fits : FitsSigned w64 c.offset_of-offset.result.0 = search rules in
    let by_word = offset_found g w.front n c.args.desk.now.checked step.step.legal step.word in
    let offset : offset_in n ≡ c.offset_of-offset.result.0 = by_word.0 ∙ sym (found c).0 in
    let new : state_in g n ≡ c.state_at.result = by_word.1 ∙ sym (found c).1 in
    rw (to_z-of_z w64 c.offset_of-offset.result.0 fits)
    (subst₂ (λ x y. Appends g v (offset_entry g v.actors c.args.by c.args.carry.now x y) w) offset new step.step)

pub returns-clause-state : goal.returns-clause-state
returns-clause-state c = (found c).1
