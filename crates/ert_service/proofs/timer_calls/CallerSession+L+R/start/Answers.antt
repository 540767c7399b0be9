use Rattle.ert_defs.specs.declared.entry.Actor.TheVariants.{Caller, Wheel}
use Rattle.std.proofs.Common.{[], ◌∷◌, rules}
use Rattle.ert_effects.specs.{TimerCalls.Starts, Ways.{Grows, beside}}
use Rattle.ert_service.proofs.{Knowing.started_in, Settling.settled_in}
use Rattle.ert_table.specs.Desks.{front_of}
use Rattle.ert_service.proofs.timer_calls.CallerSession+L+R.start.Goals as goal

pub returns-clause-settled : goal.returns-clause-settled
returns-clause-settled g c = λ exited.
    let s = g.L.DeskName.settings in
    let n = c.args.self.now.seat.number in
    let call : Grows (beside s (Caller n) (Wheel c.args.wheel ∷ []) (Starts s n c.args.wheel c.args.start.now c.start.result)) (front_of c.args.self.now.seat.pass) (front_of c.start.new.seat.pass) = search rules in
    settled_in s (Caller n) n c.args.wheel c.args.start.now c.start.result (front_of c.args.self.now.seat.pass) c.start.new.seat.pass
    c.start.new.seat.sits.named exited call

pub returns-clause-started : goal.returns-clause-started
returns-clause-started g c =
    let s = g.L.DeskName.settings in
    let n = c.args.self.now.seat.number in
    let call : Grows (beside s (Caller n) (Wheel c.args.wheel ∷ []) (Starts s n c.args.wheel c.args.start.now c.start.result)) (front_of c.args.self.now.seat.pass) (front_of c.start.new.seat.pass) = search rules in
    started_in s (Caller n) n c.args.wheel c.args.start.now c.start.result (front_of c.args.self.now.seat.pass) c.start.new.seat.pass
    c.start.new.seat.sits.named call
