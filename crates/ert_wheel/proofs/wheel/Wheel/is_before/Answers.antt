use Rattle.std.proofs.Common.{◌≡◌, ◌+◌, ◌-◌, ◌*◌, ◌/◌, ◌^◌, ◌∙◌, ℕ, List, Option, ap, refl, subst, sym, arith}
use Rattle.std.specs.Bool.{OnTrue}
use Rattle.ert_wheel.proofs.{Behind.{begins_after, fell, left_behind, none_by}, Writes.{sees, alike_after, is_held, is_kept, keys_of, passed_of}, StandsOn.stay_on}
use Rattle.ert_wheel.proofs.wheel.Wheel.is_before.Goals as goal
use Rattle.ert_wheel.specs.{Falling.HasRowIn, Wheels.AreLevelChains, declared.row.Key.Key, Rows.Held, Standing.{homes_of, StayOrFall}}

pub overflow_sub-begin : goal.overflow_sub-begin
overflow_sub-begin g c =
    let b = begins_after c.self.inside.next_time c.args.time c.args.level c.requires.level (omega (arith, ap passed_of c.self.view_is, c.requires.later))
    (λ e. c.if-window-window_on.false (c.window_on-window.ensures ∙ e ∙ sym c.window_on.ensures)) in
    let begin : c.begin_of-begin.result ≡ c.args.time / 512 ^ c.args.level * 512 ^ c.args.level =
    c.begin_of-begin.ensures ∙ ap (λ w. w * 512 ^ c.args.level) c.window_on-window.ensures in
    omega (arith, begin, b.wide)

pub pass_slowly-requires : goal.pass_slowly-requires
pass_slowly-requires g c =
    let b = begins_after c.self.inside.next_time c.args.time c.args.level c.requires.level (omega (arith, ap passed_of c.self.view_is, c.requires.later))
    (λ e. c.if-window-window_on.false (c.window_on-window.ensures ∙ e ∙ sym c.window_on.ensures)) in
    let begin : c.begin_of-begin.result ≡ c.args.time / 512 ^ c.args.level * 512 ^ c.args.level =
    c.begin_of-begin.ensures ∙ ap (λ w. w * 512 ^ c.args.level) c.window_on-window.ensures in
    none_by c.args.self.now.keys c.args.time (c.begin_of-begin.result - 2) c.requires.before (omega (arith, begin, b.wide, b.by))

pub invariant_of-self : goal.invariant_of-self
invariant_of-self g c = record {
  alike = alike_after c.self-2.invariant.alike refl refl c.fall_before.ensures.slots c.fall_before.ensures.written refl refl;
  rows = is_kept
      (fell c.self-2.inside.ordered.rising (sees c.self-2.invariant.rows c.self-2.view_is) c.fall_before.ensures.slots c.fall_before.ensures.homes
      (subst (λ (keys : List (Option Key)). AreLevelChains c.self-2.inside.next_time 1 c.fall_before.new.chains keys) (ap keys_of c.self-2.view_is)
      c.fall_before.ensures.moved));
}

pub returns-clause-keys : goal.returns-clause-keys
returns-clause-keys g c =
    is_held
    (fell c.self-2.inside.ordered.rising (sees c.self-2.invariant.rows c.self-2.view_is) c.fall_before.ensures.slots c.fall_before.ensures.homes
    (subst (λ (keys : List (Option Key)). AreLevelChains c.self-2.inside.next_time 1 c.fall_before.new.chains keys) (ap keys_of c.self-2.view_is)
    c.fall_before.ensures.moved))
    ∙ c.pass_slowly.ensures.keys

pub returns-clause-left : goal.returns-clause-left
returns-clause-left g c =
    let b = begins_after c.self.inside.next_time c.args.time c.args.level c.requires.level (omega (arith, ap passed_of c.self.view_is, c.requires.later))
    (λ e. c.if-window-window_on.false (c.window_on-window.ensures ∙ e ∙ sym c.window_on.ensures)) in
    let begin : c.begin_of-begin.result ≡ c.args.time / 512 ^ c.args.level * 512 ^ c.args.level =
    c.begin_of-begin.ensures ∙ ap (λ w. w * 512 ^ c.args.level) c.window_on-window.ensures in
    let stands : c.self-2.inside.next_time ≡ c.args.time / 512 ^ c.args.level * 512 ^ c.args.level - 1 =
    omega (arith, begin, b.after, b.by, b.wide, c.requires.most, c.pass_slowly.ensures.passed, ap passed_of c.self.view_is, ap passed_of c.self-2.view_is) in
    left_behind c.args.self.now.keys (homes_of c.fall_before.new.chains) c.self.inside.next_time c.args.time c.args.level c.self-2.inside.next_time c.fall_before.result
    c.requires.level c.requires.highest b stands
    (subst (λ (keys : List (Option Key)). OnTrue c.fall_before.result (HasRowIn keys (homes_of c.fall_before.new.chains) c.args.level (c.self-2.inside.next_time / 512 ^ c.args.level + 1)))
    (ap keys_of c.self-2.view_is ∙ c.pass_slowly.ensures.keys) c.fall_before.ensures.left)

pub returns-clause-no_further : goal.returns-clause-no_further
returns-clause-no_further g c =
    let b = begins_after c.self.inside.next_time c.args.time c.args.level c.requires.level (omega (arith, ap passed_of c.self.view_is, c.requires.later))
    (λ e. c.if-window-window_on.false (c.window_on-window.ensures ∙ e ∙ sym c.window_on.ensures)) in
    let begin : c.begin_of-begin.result ≡ c.args.time / 512 ^ c.args.level * 512 ^ c.args.level =
    c.begin_of-begin.ensures ∙ ap (λ w. w * 512 ^ c.args.level) c.window_on-window.ensures in
    let stands : c.self-2.inside.next_time ≡ c.args.time / 512 ^ c.args.level * 512 ^ c.args.level - 1 =
    omega (arith, begin, b.after, b.by, b.wide, c.requires.most, c.pass_slowly.ensures.passed, ap passed_of c.self.view_is, ap passed_of c.self-2.view_is) in
    omega (arith, stands, b.by, b.wide)

pub returns-clause-stands : goal.returns-clause-stands
returns-clause-stands g c =
    stay_on (subst (λ (n : ℕ). StayOrFall c.args.self.now.keys n c.args.self.now.stands c.pass_slowly.new.self.stands) (sym (ap passed_of c.self-2.view_is)) c.pass_slowly.ensures.stands)
    (subst (λ (keys : List (Option Key)). StayOrFall keys c.self-2.inside.next_time c.pass_slowly.new.self.stands (homes_of c.fall_before.new.chains)) c.pass_slowly.ensures.keys
    (subst (λ (h : Held _). StayOrFall h.keys c.self-2.inside.next_time h.stands (homes_of c.fall_before.new.chains)) c.self-2.view_is c.fall_before.ensures.stands))
