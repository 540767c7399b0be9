use Rattle.std.proofs.Common.{◌≡◌, ◌+◌, ◌-◌, None, ap, subst, sym, arith, count_by, length}
use Rattle.std.proofs.lemmas.List.{length-set}
use Rattle.std.specs.Option.{is_some}
use Rattle.ert_table.specs.Desks.{settings_of, view_of}
use Rattle.ert_timers.specs.{Parts.{HoldsSched, Part}, Trying.{HasDue, TriesRows, come_to}}
use Rattle.ert_timers.proofs.{SomeTried.{looked_come_to, has_due, tried_come_to}, Dues.first_next, Trials.still_held, Trying.{row_counted, tries_none, tries_more, looked_more}}
use Rattle.ert_timers.proofs.part.WheelPart.try_some.Goals as goal
use Rattle.ert_wheel.specs.{FirstDue.IsFirstRowDue, Rows.row_told}

pub loop-row-init : goal.loop-row-init
loop-row-init c =
    let g = settings_of c.args.desk.now in
    let v = view_of c.args.pass.now in
    let none : c.args.most - c.args.most ≡ 0 = omega arith in
    record {
      belongs = c.requires.belongs;
      holds = c.requires.holds;
      call = subst (λ n. TriesRows g v c.args.self.now c.args.self.now c.args.to n c.args.expired.now c.args.expired.now v) (sym none)
          (tries_none g v c.args.self.now c.args.to c.args.expired.now c.requires.looked.stands.legal);
      looked = c.requires.looked;
      few = omega arith;
      room = c.requires.room;
      spare = c.requires.scratch;
    }

pub returns-then-left-eq0-clause-call : goal.returns-then-left-eq0-clause-call
returns-then-left-eq0-clause-call c =
    let g = settings_of c.args.desk.now in
    let v = view_of c.args.pass.now in
    let u = view_of c.loop-row.pass in
    record {
      count = c.args.most - c.loop-row.left;
      tried = omega (arith, c.if-left-eq0.true);
      done = tried_come_to g v c.args.self.now c.loop-row.self c.first_row_due.new.self c.args.to (c.args.most - c.loop-row.left) c.args.expired.now c.loop-row.expired u
          c.first_row_due.ensures.part c.first_row_due.ensures.time c.first_row_due.ensures.stands c.loop-row.invariant.call;
      looked = looked_come_to g u.front c.loop-row.self c.first_row_due.new.self c.args.to c.first_row_due.new.self.passed c.first_row_due.ensures.part c.loop-row.invariant.looked;
    }

pub returns-then-left-eq0-clause-left : goal.returns-then-left-eq0-clause-left
returns-then-left-eq0-clause-left c =
    subst (λ (p : Part). HasDue p c.args.to) (sym c.first_row_due.ensures.part)
    (has_due (come_to c.loop-row.self c.first_row_due.new.self.passed c.first_row_due.new.self.stands) c.args.to (row_told c.loop-row.self.keys c.in-Row.row) c.in-Row.ensures.first)

pub expire-requires-clause-stands : goal.expire-requires-clause-stands
expire-requires-clause-stands c =
    (looked_come_to (settings_of c.args.desk.now) (view_of c.loop-row.pass).front c.loop-row.self c.first_row_due.new.self c.args.to c.first_row_due.new.self.passed
    c.first_row_due.ensures.part c.loop-row.invariant.looked).stands

pub expire-requires-clause-first : goal.expire-requires-clause-first
expire-requires-clause-first c =
    let looked =
    looked_come_to (settings_of c.args.desk.now) (view_of c.loop-row.pass).front c.loop-row.self c.first_row_due.new.self c.args.to c.first_row_due.new.self.passed
    c.first_row_due.ensures.part c.loop-row.invariant.looked in
    first_next (settings_of c.args.desk.now) (view_of c.loop-row.pass).front c.first_row_due.new.self c.args.to (row_told c.first_row_due.new.self.keys c.in-Row.row) looked.stands looked.told
    (subst (λ (p : Part). IsFirstRowDue p.keys c.args.to (row_told p.keys c.in-Row.row)) (sym c.first_row_due.ensures.part) c.in-Row.ensures.first)

pub loop-row-preserved : goal.loop-row-preserved
loop-row-preserved c =
    let g = settings_of c.args.desk.now in
    let v = view_of c.args.pass.now in
    let u = view_of c.loop-row.pass in
    let w = view_of c.expire.new.pass in
    let q = c.first_row_due.new.self in
    let part : q ≡ come_to c.loop-row.self q.passed q.stands = c.first_row_due.ensures.part in
    let row = row_told q.keys c.in-Row.row in
    let first : IsFirstRowDue q.keys c.args.to row =
    subst (λ (p : Part). IsFirstRowDue p.keys c.args.to (row_told p.keys c.in-Row.row)) (sym part) c.in-Row.ensures.first in
    let looked = looked_come_to g u.front c.loop-row.self q c.args.to q.passed part c.loop-row.invariant.looked in
    let holds : HoldsSched u q.number = subst (λ (p : Part). HoldsSched u p.number) (sym part) c.loop-row.invariant.holds in
    let one = c.expire.ensures.call in
    let count : (c.args.most - c.loop-row.left) + 1 ≡ c.args.most - (c.loop-row.left - 1) =
    omega (arith, c.if-left-eq0.false, c.loop-row.invariant.few) in
    record {
      belongs = c.expire.ensures.belongs;
      holds = still_held u w q.number c.expire.new.self.number holds one.step.actors (ap (λ (p : Part). p.number) one.part);
      call = subst (λ n. TriesRows g v c.args.self.now c.expire.new.self c.args.to n c.args.expired.now c.expire.new.expired w) count
          (tries_more g v c.args.self.now q c.expire.new.self c.args.to (c.args.most - c.loop-row.left) row c.args.expired.now c.loop-row.expired c.expire.new.expired u w
          (tried_come_to g v c.args.self.now c.loop-row.self q c.args.to (c.args.most - c.loop-row.left) c.args.expired.now c.loop-row.expired u
          part c.first_row_due.ensures.time c.first_row_due.ensures.stands c.loop-row.invariant.call)
          looked.stands first.held first.due holds.wheel one);
      looked = record {
        stands = one.stands;
        told = looked_more g q c.expire.new.self c.args.to row c.loop-row.expired c.expire.new.expired u w looked.told holds.sched one;
      };
      few = omega (arith, c.loop-row.invariant.few);
      room = omega (
        arith,
        c.if-left-eq0.false,
        c.loop-row.invariant.room,
        one.room,
        row_counted q c.expire.new.self row first.held (ap (λ (p : Part). p.keys) one.part),
        ap (λ (p : Part). count_by is_some p.keys) part,
      );
      spare = omega (
        arith,
        c.loop-row.invariant.spare,
        c.first_row_due.ensures.capacity,
        ap (λ (p : Part). length p.keys) part,
        ap (λ (p : Part). length p.keys) one.part,
        length-set q.keys row.slot None,
      );
    }

pub returns-in-Nothing-clause-call : goal.returns-in-Nothing-clause-call
returns-in-Nothing-clause-call c =
    let g = settings_of c.args.desk.now in
    let v = view_of c.args.pass.now in
    let u = view_of c.loop-row.pass in
    record {
      count = c.args.most - c.loop-row.left;
      tried = omega arith;
      done = tried_come_to g v c.args.self.now c.loop-row.self c.first_row_due.new.self c.args.to (c.args.most - c.loop-row.left) c.args.expired.now c.loop-row.expired u
          c.first_row_due.ensures.part c.first_row_due.ensures.time c.first_row_due.ensures.stands c.loop-row.invariant.call;
      looked = looked_come_to g u.front c.loop-row.self c.first_row_due.new.self c.args.to c.first_row_due.new.self.passed c.first_row_due.ensures.part c.loop-row.invariant.looked;
    }

pub returns-in-Moving-clause-call : goal.returns-in-Moving-clause-call
returns-in-Moving-clause-call c =
    let g = settings_of c.args.desk.now in
    let v = view_of c.args.pass.now in
    let u = view_of c.loop-row.pass in
    record {
      count = c.args.most - c.loop-row.left;
      tried = omega arith;
      done = tried_come_to g v c.args.self.now c.loop-row.self c.first_row_due.new.self c.args.to (c.args.most - c.loop-row.left) c.args.expired.now c.loop-row.expired u
          c.first_row_due.ensures.part c.first_row_due.ensures.time c.first_row_due.ensures.stands c.loop-row.invariant.call;
      looked = looked_come_to g u.front c.loop-row.self c.first_row_due.new.self c.args.to c.first_row_due.new.self.passed c.first_row_due.ensures.part c.loop-row.invariant.looked;
    }
