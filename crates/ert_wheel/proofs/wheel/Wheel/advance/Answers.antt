use Rattle.std.proofs.Common.{List, Option, ap, max, min, subst, sym, ◌+◌, ◌∙◌}
use Rattle.ert_wheel.proofs.{TakesMore.{stood_then, takes_more, takes_none}, Writes.{TakesOut, taken_out}}
use Rattle.std.proofs.lemmas.List.{take_all}
use Rattle.ert_wheel.proofs.wheel.Wheel.advance.Goals as goal
use Rattle.ert_wheel.specs.{Rows.rows_told, Standing.StayOrFall, declared.row.HeldRow.HeldRow, declared.row.Key.Key, declared.row.TheConstants.LAST}

pub returns-clause-left : goal.returns-clause-left
returns-clause-left g c =
    let rows = c.deref-row-items.result.now in
    c.pass.ensures.keys
    ∙ taken_out c.args.to c.args.self.now c.loop-row.self (rows_told c.args.self.now.keys c.due.new.out.items)
    (subst (λ (done : List HeldRow). TakesOut c.args.self.now c.loop-row.self (rows_told c.args.self.now.keys done))
    (take_all c.loop-row.row-index rows c.loop-row-test.false ∙ c.deref-row-items.ensures.value) c.loop-row.invariant.out)
    c.due.ensures.each

pub returns-clause-owners : goal.returns-clause-owners
returns-clause-owners g c = c.pass.ensures.owners ∙ c.loop-row.invariant.out.owners

pub returns-clause-passed : goal.returns-clause-passed
returns-clause-passed g c = c.pass.ensures.passed ∙ ap (λ n. max n (min (c.args.to + 1) LAST)) c.loop-row.invariant.out.passed

pub loop-row-init : goal.loop-row-init
loop-row-init g c = takes_none c.args.self.now

pub loop-row-preserved : goal.loop-row-preserved
loop-row-preserved g c =
    takes_more c.args.self.now c.loop-row.self c.remove.new.self c.deref-row-items.result.now c.loop-row.row-index _ c.loop-row-test.true c.loop-row.invariant
    c.remove.ensures.left c.remove.ensures.stands c.remove.ensures.owners c.remove.ensures.values c.remove.ensures.passed

pub returns-clause-stands : goal.returns-clause-stands
returns-clause-stands g c =
    subst (λ (keys : List (Option Key)). StayOrFall keys c.pass.new.self.passed c.args.self.now.stands c.pass.new.self.stands) (sym c.pass.ensures.keys)
    (stood_then c.args.self.now c.loop-row.self c.loop-row.invariant.stood c.pass.ensures.stands)
