use Rattle.std.proofs.Common.{◌≡◌, ◌+◌, ◌<◌, ◌≤◌, ◌/◌, max, nat_lt, subst, ap, arith}
use Rattle.std.specs.Prelude.{MatchBool}
use Rattle.ert_wheel.proofs.{Near.{end_lowest, may_be_near}, Reaching.any_due_by, Standing.{wheel_stands, end_of}, Writes.{sees, passed_of}}
use Rattle.ert_wheel.proofs.wheel.Wheel.may_be_due.Goals as goal
use Rattle.ert_wheel.specs.{FirstDue.{MayBeDue, NoRowDue}, Wheels.{stand_on, places}, Rows.Held, Standing.homes_of}

pub returns : goal.returns
returns g c =
    let keys = c.args.self.now.keys in
    let next = c.self.inside.next_time in
    let look = wheel_stands (sees c.self.invariant.rows c.self.view_is).wheel in
    let first = c.first_window.ensures.first (places (stand_on next look.level look.stand.time look.stand.rank) keys) look.stand.are in
    let later : next < c.args.to = omega (arith, c.if-to-self-2.false) in
    let near : c.args.to / 512 ≤ next / 512 = omega (arith, c.if-to-self-3.false) in
    let few : c.args.to + 1 ≤ end_of 0 next = omega (arith, near, end_lowest next, look.stand.fits) in
    let end : c.args.to + 1 ≡ max c.args.to next + 1 = omega (arith, later) in
    subst (λ (h : Held _). MatchBool (nat_lt c.first_window.result (c.args.to + 1)) (MayBeDue keys h.stands h.passed c.args.to) (NoRowDue keys c.args.to)) c.self.view_is
    (may_be_near look.stand first c.first_window.ensures.up c.first_window.ensures.low few c.args.to (homes_of c.self.inside.buckets) near end)

pub returns-then-to-self-2 : goal.returns-then-to-self-2
returns-then-to-self-2 g c =
    any_due_by c.args.self.now.keys c.args.self.now.stands c.args.self.now.passed c.args.to c.is_any_due.result (omega (arith, c.if-to-self-2.true, ap passed_of c.self.view_is))
    c.is_any_due.ensures
