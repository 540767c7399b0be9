use Rattle.std.proofs.Common.{ℕ, ap, subst, sym}
use Rattle.ert_wheel.proofs.{Least.answer_is, Near.{due_next, least_here, least_seen}, Standing.wheel_stands, Writes.{sees, keys_of, passed_of}}
use Rattle.ert_wheel.proofs.wheel.Wheel.due_at_once.Goals as goal
use Rattle.ert_wheel.specs.{FirstDue.SomeRowDue, NextDue.{NoRow, IsNextDue, IsLeastIn}, Wheels.stand_on, declared.row.TheConstants.NEVER, Rows.Held, Standing.homes_of}

pub returns-then-self : goal.returns-then-self
returns-then-self g c =
    let keys = c.args.self.now.keys in
    let next = c.self.inside.next_time in
    let s = sees c.self.invariant.rows c.self.view_is in
    subst (λ (h : Held _). IsNextDue keys h.stands h.passed c.begin_in.result.time) c.self.view_is
    (subst (λ (n : ℕ). IsNextDue keys (homes_of c.self.inside.buckets) next n) (sym c.begin_in.ensures)
    (due_next keys (homes_of c.self.inside.buckets) next c.self.inside.floor (subst (λ (n : ℕ). SomeRowDue keys n) (sym (ap passed_of c.self.view_is)) c.requires) s.above c.if-self.true))

pub returns : goal.returns
returns g c =
    let keys = c.args.self.now.keys in
    let next = c.self.inside.next_time in
    let look = wheel_stands (sees c.self.invariant.rows c.self.view_is).wheel in
    let due = subst (λ (n : ℕ). SomeRowDue keys n) (sym (ap passed_of c.self.view_is)) c.requires in
    answer_is (NoRow keys) c.least_in.result c.least_in.ensures.all c.least_in.ensures.least (λ least looked.
    subst (λ (h : Held _). IsNextDue keys h.stands h.passed least.time) c.self.view_is
    (least_here look.stand least.time (homes_of c.self.inside.buckets) due
    (subst (λ (b : ℕ). IsLeastIn keys (stand_on next look.level look.stand.time look.stand.rank) b NEVER least.time) c.bucket_of_window-home.ensures.is
    (least_seen c.self.inside.kept.keys look.stand (ap keys_of c.self.view_is) looked))))
