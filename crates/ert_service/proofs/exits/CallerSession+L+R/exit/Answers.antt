use Rattle.std.proofs.Common.{subst}
use Rattle.ert_effects.specs.{Chains.Exits, Ways.{Grows, beside}}
use Rattle.ert_defs.specs.declared.entry.Actor.TheVariants.{Caller}
use Rattle.ert_service.proofs.Settling.{swept_in}
use Rattle.ert_table.specs.Desks.{front_of}
use Rattle.ert_service.proofs.exits.CallerSession+L+R.exit.Goals as goal

pub returns-clause-swept : goal.returns-clause-swept
returns-clause-swept g c = λ new.
    let s = g.L.DeskName.settings in
    let n = c.args.self.now.seat.number in
    let f = front_of c.args.self.now.seat.pass in
    let after = c.exit.new.steps.seat in
    swept_in s (Caller n) n c.args.process f after.pass after.sits.named
    (subst (λ b. Grows (Exits s (beside s (Caller n)) n c.args.process b) f (front_of after.pass)) new c.exit.ensures.call)
