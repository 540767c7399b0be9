use Rattle.std.proofs.Common.{arith, ◌≡◌, ◌∙◌, sym, ap, true, length}
use Rattle.std.specs.Prelude.{vec_len}
use Rattle.ert_judge.specs.Wheels.{is_settled}
use Rattle.ert_judge.proofs.{ArmedLaws.{settled_none, no_key}, FirstLaws.{least_within, first_armed}}
use Rattle.ert_judge.proofs.state.wheels.Wheel.first_armed.Goals as goal

pub returns-in_err-first : goal.returns-in_err-first
returns-in_err-first c =
    rw c.from_residual.ensures
    (sym (ap (is_settled (λ d. true)) c.self.view_is)
    ∙ settled_none (λ d. true) c.self.inside.timers.items c.self.inside.armed c.self.invariant.waits
    (no_key c.self.inside.armed c.in_err-first.ensures.variant))

pub index-requires : goal.index-requires
index-requires c =
    let same : vec_len c.self.inside.timers ≡ length c.self.inside.timers.items = c.self.inside.timers.ok.0 in
    let low = least_within c.self.inside.timers.items c.self.inside.armed c.in_ok-first.first.now.0 c.in_ok-first.first.now.1
    c.self.invariant.waits (record { member = c.in_ok-first.ensures.member; least = c.in_ok-first.ensures.least }) in
    omega arith

pub returns : goal.returns
returns c =
    first_armed c.self.inside.timers.items c.args.self.now c.self.inside.places c.self.inside.armed c.in_ok-first.first.now.0
    c.in_ok-first.first.now.1 c.index.result.now c.self.view_is c.self.invariant.placed c.self.invariant.waits
    (record { member = c.in_ok-first.ensures.member; least = c.in_ok-first.ensures.least })
    c.index.ensures
