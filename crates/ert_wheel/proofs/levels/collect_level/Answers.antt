use Rattle.std.proofs.Common.{◌<◌, ◌+◌, ◌/◌, ◌^◌, ℕ, max, ap, ◌∙◌, subst, sym, arith}
use Rattle.ert_wheel.proofs.{Seen.{seen_start, seen_skip, may_collect, seen_more, seen_end}, Standing.{end_after, end_low, end_of}, Times.later}
use Rattle.ert_wheel.proofs.levels.collect_level.Goals as goal
use Rattle.ert_wheel.specs.{Walks.{MayCollect, Collects}, Wheels.{held_keys, stand_on, places}}

pub first_window-window-requires-clause-from : goal.first_window-window-requires-clause-from
first_window-window-requires-clause-from g c =
    omega (
      arith,
      c.window_on.ensures,
      c.min.ensures,
      c.min-end.ensures,
      c.window_on-last.ensures,
      c.windows_end.ensures,
      end_after c.args.level c.args.next_time c.requires.level c.requires.may.stand.fits,
      later c.args.level c.args.next_time c.max.result (omega (arith, c.max.ensures)),
    )

pub loop-window-init : goal.loop-window-init
loop-window-init g c = record {
  capacity_stays = omega arith;
  from_on = omega (arith, c.first_window-window.ensures.up, c.window_on.ensures);
  low = c.first_window-window.ensures.low;
  sees = λ levels stand so_far.
      seen_skip stand (c.window_on.result + c.min.result) c.min-end.result c.first_window-window.result c.args.rows.now.items c.first_window-window.ensures.up c.first_window-window.ensures.low
      (omega (arith, c.min-end.ensures, c.windows_end.ensures))
      (c.first_window-window.ensures.first (places (stand_on c.args.next_time levels stand.time stand.rank) (held_keys c.args.chains.now c.args.kept.now.keys)) stand.are)
      (seen_start stand (c.window_on.result + c.min.result) c.args.rows.now.items (omega (arith, c.window_on.ensures, c.min.ensures)) so_far);
}

pub collect-requires-clause-may : goal.collect-requires-clause-may
collect-requires-clause-may g c =
    let keys = held_keys c.args.chains.now c.args.kept.now.keys in
    let may = c.requires.may in
    let spot = stand_on c.args.next_time may.level may.stand.time may.stand.rank in
    let low : c.loop-window.window < end_of c.args.level c.args.next_time = omega (arith, c.loop-window-test.true, c.min-end.ensures, c.windows_end.ensures) in
    record {
      spot = spot;
      may = subst (λ (b : ℕ). MayCollect c.args.chains.now keys spot b c.args.to c.loop-window.rows.items) (sym c.bucket_of_window.ensures.is)
          (may_collect may.stand c.loop-window.window c.loop-window.rows.items c.loop-window.invariant.from_on low
          (c.loop-window.invariant.sees may.level may.stand may.so_far));
    }

pub first_window-window-requires-in-loop-window-clause-end : goal.first_window-window-requires-in-loop-window-clause-end
first_window-window-requires-in-loop-window-clause-end g c =
    end_low c.args.level c.args.next_time c.min-end.result c.requires.level (omega (arith, c.min-end.ensures, c.windows_end.ensures))

pub loop-window-preserved : goal.loop-window-preserved
loop-window-preserved g c = record {
  capacity_stays = c.collect.ensures.capacity ∙ c.loop-window.invariant.capacity_stays;
  from_on = omega (arith, c.first_window-window-in-loop-window.ensures.up, c.loop-window.invariant.from_on);
  low = c.first_window-window-in-loop-window.ensures.low;
  sees = λ levels stand so_far.
      let keys = held_keys c.args.chains.now c.args.kept.now.keys in
      let spot = stand_on c.args.next_time levels stand.time stand.rank in
      let low : c.loop-window.window < end_of c.args.level c.args.next_time = omega (arith, c.loop-window-test.true, c.min-end.ensures, c.windows_end.ensures) in
      let seen = c.loop-window.invariant.sees levels stand so_far in
      let collects = subst (λ (b : ℕ). MayCollect c.args.chains.now keys spot b c.args.to c.loop-window.rows.items
      → Collects keys spot b c.args.to c.loop-window.rows.items c.collect.new.rows.items) c.bucket_of_window.ensures.is (c.collect.ensures.collects spot) in
      seen_skip {keys = keys} stand (c.loop-window.window + 1) c.min-end.result c.first_window-window-in-loop-window.result c.collect.new.rows.items
      c.first_window-window-in-loop-window.ensures.up c.first_window-window-in-loop-window.ensures.low
      (omega (arith, c.min-end.ensures, c.windows_end.ensures))
      (c.first_window-window-in-loop-window.ensures.first (places spot keys) stand.are)
      (seen_more {keys = keys} stand c.loop-window.window c.loop-window.rows.items c.loop-window.invariant.from_on low seen c.collect.new.rows.items
      (collects (may_collect {keys = keys} stand c.loop-window.window c.loop-window.rows.items c.loop-window.invariant.from_on low seen)));
}

pub returns-clause-collects : goal.returns-clause-collects
returns-clause-collects g c = λ levels stand so_far.
    seen_end stand c.loop-window.window c.window_on-last.result c.loop-window.rows.items
    (c.window_on-last.ensures ∙ ap (λ t. t / 512 ^ c.args.level) (c.max.ensures ∙ ap (λ t. max t c.args.next_time) c.min-2.ensures))
    (omega (arith, c.loop-window-test.false, c.min-end.ensures, c.windows_end.ensures))
    (c.loop-window.invariant.sees levels stand so_far)
