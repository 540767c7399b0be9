use Rattle.std.proofs.Common.{◌≡◌, sym, subst}
use Rattle.ert_defs.specs.{Timers.timer_at, declared.timer.TimerRef.TimerRef}
use Rattle.ert_table.specs.Desks.{settings_of, view_of}
use Rattle.ert_timers.specs.{Parts.last_timer, Starting.{HoldsTimer, Orphans}}
use Rattle.ert_timers.proofs.part.WheelPart.orphan_last.Goals as goal

pub orphan-requires-clause-held : goal.orphan-requires-clause-held
orphan-requires-clause-held c =
    let p = c.args.self.now in
    let named : last_timer p.number p.slots c.args.slot ≡ timer_at c.number.result c.args.slot c.args.generation =
    sym (λ i. timer_at (c.number.ensures i) c.args.slot (c.requires.generation i)) in
    subst (λ (t : TimerRef). HoldsTimer p t c.args.deadline) named c.requires.held

pub returns-clause-call : goal.returns-clause-call
returns-clause-call c =
    let p = c.args.self.now in
    let named : timer_at c.number.result c.args.slot c.args.generation ≡ last_timer p.number p.slots c.args.slot =
    λ i. timer_at (c.number.ensures i) c.args.slot (c.requires.generation i) in
    subst (λ (t : TimerRef). Orphans (settings_of c.args.desk.now) (view_of c.args.pass.now) c.args.by p c.orphan.new.self t (view_of c.orphan.new.pass))
    named c.orphan.ensures.call
