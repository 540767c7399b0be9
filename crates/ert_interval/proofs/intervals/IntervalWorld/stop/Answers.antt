use Rattle.std.proofs.Common.{◌<◌, length, rules, inl, subst, ◌∙◌}
use Rattle.ert_interval.specs.Calls.{IsNewOrSame}
use Rattle.ert_defs.specs.States.{state}
use Rattle.ert_interval.proofs.Tables.{set_kept, spared_kept, spared_idle, any_default}
use Rattle.ert_interval.proofs.intervals.IntervalWorld.stop.Goals as goal

pub returns-clause-kept : goal.returns-clause-kept
returns-clause-kept c =
    let a = c.args.self.now.world in
    let b = c.stop.new.world in
    let is = c.args.self.now.intervals.items in
    let low : c.args.interval < length is = search rules in
    let value = c.index_mut.ensures.value in
    set_kept a b is c.args.interval c.stop.new.interval c.requires.kept low c.stop.ensures.spared.next c.stop.ensures.legal
    (spared_idle a b c.index_mut.result.now.last c.stop.ensures.spared c.requires.kept.idle)
    (spared_kept a b is c.args.interval c.index_mut.result.now c.requires.kept low value c.stop.ensures.spared c.stop.ensures.legal)
    c.stop.ensures.kept
    (λ d. subst (λ i. IsNewOrSame (state a.settings a.history) i c.stop.new.interval)
    (value ∙ any_default is c.args.interval c.index_mut.result.now d low) (inl c.stop.ensures.last))
