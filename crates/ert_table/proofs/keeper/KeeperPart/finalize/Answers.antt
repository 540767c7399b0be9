use Rattle.std.proofs.Common.{◌≡◌, rules, refl, sym, subst}
use Rattle.std.specs.Prelude.{Err}
use Rattle.ert_effects.specs.ClockCalls.{Finalizes}
use Rattle.ert_table.proofs.Steps.{final_refused}
use Rattle.ert_table.specs.{Desks.{settings_of, view_of}, Calls.IsMade}
use Rattle.ert_table.proofs.keeper.KeeperPart.finalize.Goals as goal

pub returns-in_err-state-clause-call : goal.returns-in_err-state-clause-call
returns-in_err-state-clause-call c =
    let g = settings_of c.args.desk.now in
    let v = view_of c.args.pass.now in
    let e = c.in_err-state.field-0.0 in
    let result : c.from_residual.result ≡ Err e = search rules in
    let gives = rw c.self.view_is at c.in_err-state.ensures.gives in
    subst (λ x. IsMade g v (Finalizes g c.args.by c.args.reading x) v) (sym result)
    (final_refused g v v c.args.by c.args.reading e c.args.self.now c.finalize.new.self gives
    c.requires.stands refl)
