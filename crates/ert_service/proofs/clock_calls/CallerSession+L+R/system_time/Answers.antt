use Rattle.std.proofs.Common.{rules, FitsSigned, w64, to_z-of_z}
use Rattle.ert_effects.specs.ClockCalls.{TellsSystemTime}
use Rattle.ert_defs.specs.declared.entry.Actor.TheVariants.{Caller}
use Rattle.ert_service.proofs.Alone.{made_alone}
use Rattle.ert_service.proofs.clock_calls.CallerSession+L+R.system_time.Goals as goal

pub returns-clause-call : goal.returns-clause-call
returns-clause-call g c =
    let fits : FitsSigned w64 c.system_time.result = search rules in
    let seat = c.args.self.now.seat in
    let by = Caller seat.number in
    simp to_z-of_z
    (made_alone g.L.DeskName.settings _ by (λ s. TellsSystemTime s by c.system_time.result) seat.pass c.system_time.new.self c.desk.ensures.settings_is
    seat.sits.actors c.system_time.ensures.call)
