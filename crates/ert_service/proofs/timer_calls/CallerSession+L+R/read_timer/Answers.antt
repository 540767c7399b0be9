use Rattle.std.proofs.Common.{Some, ap, ◌∙◌}
use Rattle.ert_effects.specs.TimerCalls.{Reads}
use Rattle.ert_defs.specs.declared.entry.Actor.TheVariants.{Caller}
use Rattle.ert_service.proofs.{Alone.made_alone, Knowing.none_read}
use Rattle.ert_service.proofs.timer_calls.CallerSession+L+R.read_timer.Goals as goal

pub returns-clause-call : goal.returns-clause-call
returns-clause-call g c =
    let seat = c.args.self.now.seat in
    let by = Caller seat.number in
    made_alone g.L.DeskName.settings _ by (λ s. Reads s by c.args.timer c.read_timer.result) seat.pass c.read_timer.new.self c.desk.ensures.settings_is
    seat.sits.actors c.read_timer.ensures.call.call

pub returns-clause-known : goal.returns-clause-known
returns-clause-known g c = λ some none.
    let seat = c.args.self.now.seat in
    let by = Caller seat.number in
    let call =
    made_alone g.L.DeskName.settings _ by (λ s. Reads s by c.args.timer c.read_timer.result) seat.pass c.read_timer.new.self c.desk.ensures.settings_is
    seat.sits.actors c.read_timer.ensures.call.call in
    none_read g.L.DeskName.settings by c.args.timer c.read_timer.result seat.pass c.read_timer.new.self (c.read_timer.ensures.belongs.named ∙ ap (λ s. Some s) c.desk.ensures.settings_is) call some none
