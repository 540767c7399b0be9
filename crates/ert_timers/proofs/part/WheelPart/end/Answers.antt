use Rattle.std.proofs.Common.{false, refl, sym, ap, subst, ◌∙◌}
use Rattle.ert_defs.specs.{States.state, Entries.mark_entry, declared.entry.Actor.TheVariants.Caller, declared.timer.TimerRef.TimerRef}
use Rattle.ert_table.specs.{Desks.{settings_of, view_of}, Takes.Appends}
use Rattle.ert_timers.specs.Starting.{HoldsTimer, Orphans}
use Rattle.ert_timers.proofs.Orphaned.{ends_alive, ends_exited, exited_seen, marked_stands, still_caller}
use Rattle.ert_timers.proofs.part.WheelPart.end.Goals as goal

pub returns-then-not-mark-clause-call : goal.returns-then-not-mark-clause-call
returns-then-not-mark-clause-call c =
    ends_alive (settings_of c.args.desk.now) (view_of c.args.pass.now) c.args.by c.args.self.now c.args.dest c.args.timer c.mark.result
    (view_of c.mark.new.self) c.requires.stands c.requires.holds c.if-not-mark.true c.mark.ensures.step

pub orphan_last-requires-clause-holds : goal.orphan_last-requires-clause-holds
orphan_last-requires-clause-holds c =
    still_caller (settings_of c.args.desk.now) (view_of c.args.pass.now) (view_of c.mark.new.self) c.args.by c.args.self.now.number
    c.args.self.now.number c.requires.holds c.mark.ensures.step.actors refl

pub orphan_last-requires-clause-stands : goal.orphan_last-requires-clause-stands
orphan_last-requires-clause-stands c =
    marked_stands (settings_of c.args.desk.now) (view_of c.args.pass.now) c.args.by c.args.dest c.mark.result (view_of c.mark.new.self)
    c.args.self.now c.requires.stands c.requires.holds c.mark.ensures.step

pub orphan_last-requires-clause-exited : goal.orphan_last-requires-clause-exited
orphan_last-requires-clause-exited c =
    let g = settings_of c.args.desk.now in
    let v = view_of c.args.pass.now in
    let u = view_of c.mark.new.self in
    ap (state g u.front).exited c.requires.dest
    ∙ exited_seen g v c.args.by c.args.dest u
    (subst (λ b. Appends g v (mark_entry (Caller c.args.by) c.args.dest false b) u) c.if-not-mark.false c.mark.ensures.step)

pub orphan_last-requires-clause-generation : goal.orphan_last-requires-clause-generation
orphan_last-requires-clause-generation c = ap (λ (t : TimerRef). t.generation) c.requires.held.named

pub orphan_last-requires-clause-held : goal.orphan_last-requires-clause-held
orphan_last-requires-clause-held c = subst (λ t. HoldsTimer c.args.self.now t c.args.deadline) c.requires.held.named c.requires.held

pub returns-clause-call : goal.returns-clause-call
returns-clause-call c =
    ends_exited (settings_of c.args.desk.now) (view_of c.args.pass.now) c.args.by c.args.self.now c.orphan_last.new.self c.args.dest c.args.deadline
    c.args.timer c.mark.result (view_of c.mark.new.self) (view_of c.orphan_last.new.pass) c.if-not-mark.false c.requires.held c.mark.ensures.step
    (subst (λ t. Orphans (settings_of c.args.desk.now) (view_of c.mark.new.self) c.args.by c.args.self.now c.orphan_last.new.self t
    (view_of c.orphan_last.new.pass)) (sym c.requires.held.named) c.orphan_last.ensures.call)
