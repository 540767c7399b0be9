use Rattle.std.proofs.Common.{rules}
use Rattle.ert_effects.specs.{Chains.SweepsWheel, Ways.{Grows, beside}}
use Rattle.ert_defs.specs.declared.entry.Actor.TheVariants.{Caller}
use Rattle.ert_service.proofs.Chained.{still_exited}
use Rattle.ert_table.specs.Desks.{front_of}
use Rattle.ert_service.proofs.exits.CallerSessionCallerSteps.sweep_wheel.Goals as goal

pub returns-clause-exited : goal.returns-clause-exited
returns-clause-exited g c =
    let s = g.L.DeskName.settings in
    let seat = c.args.self.now.seat in
    let sweep = SweepsWheel s (beside s (Caller seat.number)) seat.number c.args.process c.args.wheel in
    let call : Grows sweep (front_of seat.pass) (front_of c.sweep.new.seat.pass) = search rules in
    still_exited s sweep c.args.process (front_of seat.pass) (front_of c.sweep.new.seat.pass) call c.requires.exited
