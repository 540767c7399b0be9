use Rattle.std.proofs.Common.{◌≡◌, ◌≢◌, false, Some, sym, subst, ◌∙◌}
use Rattle.ert_defs.specs.{States.state, declared.settings.Settings.Settings, declared.timer.Status.TheVariants.Armed}
use Rattle.ert_table.specs.Desks.{settings_of, front_of}
use Rattle.ert_timers.proofs.{Freed.given_keeps, Moved.{held_last, slot_apart}}
use Rattle.ert_timers.specs.Parts.{PartStands}
use Rattle.ert_timers.proofs.part.WheelPart.let_go_of.Goals as goal

pub forget-requires-clause-stands : goal.forget-requires-clause-stands
forget-requires-clause-stands c = λ g named.
    let same : Some (settings_of c.args.desk.now) ≡ Some g = sym c.requires.belongs.named ∙ named in
    let mine : settings_of c.args.desk.now ≡ g = cc in
    subst (λ (x : Settings). PartStands x (front_of c.args.pass.now) c.args.self.now) mine c.requires.stands

pub forget-requires-clause-last : goal.forget-requires-clause-last
forget-requires-clause-last c =
    held_last c.args.self.now c.args.timer (c.requires.held (c.if-timer-number.true ∙ c.number.ensures))

pub forget-requires-clause-settled : goal.forget-requires-clause-settled
forget-requires-clause-settled c = λ g named.
    let same : Some (settings_of c.args.desk.now) ≡ Some g = sym c.requires.belongs.named ∙ named in
    let mine : settings_of c.args.desk.now ≡ g = cc in
    subst (λ (x : Settings). (state x (front_of c.args.pass.now)).status c.args.timer ≢ Some Armed) mine c.requires.settled

pub returns-then-timer-number-clause-slots : goal.returns-then-timer-number-clause-slots
returns-then-timer-number-clause-slots c = λ s by slot start next has.
    let held = c.requires.held (c.if-timer-number.true ∙ c.number.ensures) in
    slot_apart (settings_of c.args.desk.now) s by c.args.self.now c.forget.new.self c.args.timer slot start next has held (c.forget.ensures.held held)

pub returns-then-timer-number-clause-frees : goal.returns-then-timer-number-clause-frees
returns-then-timer-number-clause-frees c =
    given_keeps c.args.self.now c.forget.new.self c.args.timer.slot false
    (c.forget.ensures.held (c.requires.held (c.if-timer-number.true ∙ c.number.ensures)))
