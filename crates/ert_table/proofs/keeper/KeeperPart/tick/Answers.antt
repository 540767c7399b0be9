use Rattle.std.proofs.Common.{◌≡◌, rules, refl, sym, subst}
use Rattle.std.specs.Prelude.{Err}
use Rattle.ert_effects.specs.ClockCalls.{Ticks}
use Rattle.ert_clock.specs.{Shown.Shown, Ticks.{act_of, Gives}}
use Rattle.ert_table.proofs.Steps.{tick_refused}
use Rattle.ert_table.specs.{Desks.{settings_of, view_of}, Calls.IsMade}
use Rattle.ert_table.proofs.keeper.KeeperPart.tick.Goals as goal

pub returns-in_err-moved-clause-call : goal.returns-in_err-moved-clause-call
returns-in_err-moved-clause-call c =
    let g = settings_of c.args.desk.now in
    let v = view_of c.args.pass.now in
    let e = c.in_err-moved.field-0.0 in
    let result : c.from_residual.result ≡ Err e = search rules in
    let gives : Gives c.args.self.now c.args.reading (act_of c.args.force) (Err e) c.tick.new.self =
    subst (λ (x : Shown). Gives x c.args.reading (act_of c.args.force) (Err e) c.tick.new.self) c.self.view_is c.in_err-moved.ensures.gives in
    subst (λ x. IsMade g v (Ticks g c.args.by c.args.reading c.args.force x) v) (sym result)
    (tick_refused g v v c.args.by c.args.reading c.args.force e c.args.self.now c.tick.new.self c.requires.stands
    gives refl)
