use Rattle.std.proofs.Common.{false, subst}
use Rattle.ert_defs.specs.{Entries.mark_entry, declared.entry.Actor.TheVariants.Sched}
use Rattle.ert_table.specs.{Desks.{settings_of, view_of}, Takes.Appends}
use Rattle.ert_mail.proofs.Handings.{ready, has_row, may_deliver, may_drop, exit_seen, put_handed, drop_handed}
use Rattle.ert_mail.proofs.handing.hand_over.Goals as goal

pub settle-requires-clause-row : goal.settle-requires-clause-row
settle-requires-clause-row c =
    let g = settings_of c.args.desk.now in
    let v = view_of c.args.pass.now in
    let u = view_of c.mark.new.self in
    let expired = c.args.expired.now in
    has_row g u expired (ready g v u expired c.mark.result c.requires.holds c.requires.first c.mark.ensures.step)

pub settle-requires-clause-may : goal.settle-requires-clause-may
settle-requires-clause-may c =
    let g = settings_of c.args.desk.now in
    let v = view_of c.args.pass.now in
    let u = view_of c.mark.new.self in
    let expired = c.args.expired.now in
    let exited = subst (λ was. Appends g v (mark_entry (Sched expired.timer.wheel) expired.dest false was) u) c.if-mark.true c.mark.ensures.step in
    may_drop g u expired (ready g v u expired c.mark.result c.requires.holds c.requires.first c.mark.ensures.step)
    (exit_seen g v u (Sched expired.timer.wheel) expired.dest exited)

pub returns-then-mark-clause-steps : goal.returns-then-mark-clause-steps
returns-then-mark-clause-steps c =
    let g = settings_of c.args.desk.now in
    let v = view_of c.args.pass.now in
    let u = view_of c.mark.new.self in
    let expired = c.args.expired.now in
    let exited = subst (λ was. Appends g v (mark_entry (Sched expired.timer.wheel) expired.dest false was) u) c.if-mark.true c.mark.ensures.step in
    drop_handed g v u (view_of c.settle.new.self) expired c.settle.result c.requires.holds exited c.settle.ensures.step

pub settle-requires-2-clause-row : goal.settle-requires-2-clause-row
settle-requires-2-clause-row c =
    let g = settings_of c.args.desk.now in
    let v = view_of c.args.pass.now in
    let u = view_of c.mark.new.self in
    let expired = c.args.expired.now in
    has_row g u expired (ready g v u expired c.mark.result c.requires.holds c.requires.first c.mark.ensures.step)

pub settle-requires-2-clause-may : goal.settle-requires-2-clause-may
settle-requires-2-clause-may c =
    let g = settings_of c.args.desk.now in
    let v = view_of c.args.pass.now in
    let u = view_of c.mark.new.self in
    let expired = c.args.expired.now in
    may_deliver g u expired (ready g v u expired c.mark.result c.requires.holds c.requires.first c.mark.ensures.step)

pub returns-clause-steps : goal.returns-clause-steps
returns-clause-steps c =
    let g = settings_of c.args.desk.now in
    let v = view_of c.args.pass.now in
    let u = view_of c.mark.new.self in
    let expired = c.args.expired.now in
    let alive = subst (λ was. Appends g v (mark_entry (Sched expired.timer.wheel) expired.dest false was) u) c.if-mark.false c.mark.ensures.step in
    put_handed g v u (view_of c.settle-2.new.self) expired c.settle-2.result c.requires.holds c.requires.first alive c.settle-2.ensures.step
