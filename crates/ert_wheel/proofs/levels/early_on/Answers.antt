use Rattle.std.proofs.Common.{◌≡◌, ◌+◌, ◌*◌, ◌^◌, ◌∙◌, ℕ, ap, subst, sym, arith}
use Rattle.ert_wheel.proofs.{NextDue.{NoneUpTo, none_first, none_skip, none_looked, none_left, none_at_end, has_there, begins_there, early_looked, earlier_is}, Standing.{end_after, end_low}}
use Rattle.ert_wheel.proofs.levels.early_on.Goals as goal
use Rattle.ert_wheel.specs.{NextDue.IsEarlyOrNever, Standing.homes_of, Wheels.{held_keys, stand_on, places}}

pub first_window-window-requires-clause-from : goal.first_window-window-requires-clause-from
first_window-window-requires-clause-from g c =
    omega (arith, c.window_on.ensures, c.windows_end-end.ensures, end_after c.args.level c.args.next_time c.requires.highest c.requires.may.stand.fits)

pub loop-window-init : goal.loop-window-init
loop-window-init g c =
    let keys = held_keys c.args.chains.now c.args.kept.now.keys in
    let may = c.requires.may in
    record {
      after = omega (arith, c.window_on.ensures, c.first_window-window.ensures.up);
      up = c.first_window-window.ensures.low;
      low = omega arith;
      early_is = c.requires.early;
      none_so_far = λ levels stand.
          none_skip {keys = keys} stand c.requires.level c.requires.highest (c.window_on.result + 1) c.windows_end-end.result c.first_window-window.result c.args.before.time
          c.first_window-window.ensures.low (omega (arith, c.window_on.ensures))
          (c.first_window-window.ensures.first (places (stand_on c.args.next_time levels stand.time stand.rank) keys) stand.are)
          (none_first stand c.requires.level c.requires.highest (c.window_on.result + 1) c.args.before.time (ap (λ w. w + 1) c.window_on.ensures));
      some = λ low.
          has_there may.stand c.requires.level c.requires.highest (c.window_on.result + 1) c.windows_end-end.result c.first_window-window.result low
          (c.first_window-window.ensures.first (places (stand_on c.args.next_time may.level may.stand.time may.stand.rank) keys) may.stand.are);
    }

pub returns-then-begin-earliest-clause-none : goal.returns-then-begin-earliest-clause-none
returns-then-begin-earliest-clause-none g c = λ levels stand.
    none_left stand c.requires.level c.requires.highest c.loop-window.window c.loop-window.earliest.time c.loop-window.earliest.time (omega arith)
    (omega (arith, c.if-begin-earliest.true, c.begin_of-begin.ensures)) (c.loop-window.invariant.none_so_far levels stand)

pub returns-in_default-clause-early : goal.returns-in_default-clause-early
returns-in_default-clause-early g c =
    begins_there c.args.next_time c.args.level c.loop-window.window c.begin_in.result.time c.requires.level c.requires.highest c.loop-window.invariant.after
    (omega (arith, c.loop-window-test.true, c.windows_end-end.ensures))
    (c.begin_in.ensures ∙ c.begin_of-begin.ensures) (c.loop-window.invariant.some c.loop-window-test.true)

pub returns-in_default-clause-none : goal.returns-in_default-clause-none
returns-in_default-clause-none g c = λ levels stand.
    let begin : c.begin_in.result.time ≡ c.loop-window.window * 512 ^ c.args.level = c.begin_in.ensures ∙ c.begin_of-begin.ensures in
    none_left stand c.requires.level c.requires.highest c.loop-window.window c.loop-window.earliest.time c.begin_in.result.time
    (omega (arith, c.if-begin-earliest.false, c.begin_in.ensures)) (omega (arith, begin)) (c.loop-window.invariant.none_so_far levels stand)

pub first_window-window-requires-in-loop-window-clause-end : goal.first_window-window-requires-in-loop-window-clause-end
first_window-window-requires-in-loop-window-clause-end g c =
    end_low c.args.level c.args.next_time c.windows_end-end.result c.requires.highest (omega (arith, c.windows_end-end.ensures))

pub loop-window-preserved : goal.loop-window-preserved
loop-window-preserved g c =
    let keys = held_keys c.args.chains.now c.args.kept.now.keys in
    let stands = homes_of c.args.chains.now in
    let may = c.requires.may in
    let i = c.loop-window.invariant in
    record {
      after = omega (arith, i.after, c.first_window-window-in-loop-window.ensures.up);
      up = c.first_window-window-in-loop-window.ensures.low;
      low = omega (arith, i.low, c.earlier-earliest.ensures);
      early_is =
          subst (λ (n : ℕ). IsEarlyOrNever keys stands c.args.next_time n) (sym c.earlier-earliest.ensures)
          (earlier_is keys stands c.args.next_time c.loop-window.earliest.time c.in-Some.least.time i.early_is
          (early_looked c.args.next_time (c.in-Some.ensures.least (stand_on c.args.next_time may.level may.stand.time may.stand.rank) may.stand.are)));
      none_so_far = λ levels stand.
          none_skip {keys = keys} stand c.requires.level c.requires.highest (c.loop-window.window + 1) c.windows_end-end.result c.first_window-window-in-loop-window.result c.earlier-earliest.result.time
          c.first_window-window-in-loop-window.ensures.low (omega (arith, i.after))
          (c.first_window-window-in-loop-window.ensures.first (places (stand_on c.args.next_time levels stand.time stand.rank) keys) stand.are)
          (subst (λ (n : ℕ). NoneUpTo keys levels stand.time c.args.next_time c.args.level (c.loop-window.window + 1) n) (sym c.earlier-earliest.ensures)
          (none_looked stand c.requires.level c.requires.highest c.loop-window.window c.loop-window.earliest.time c.in-Some.least.time c.bucket_of_window-bucket.result
          c.bucket_of_window-bucket.ensures.is (c.in-Some.ensures.least (stand_on c.args.next_time levels stand.time stand.rank) stand.are)
          (i.none_so_far levels stand)));
      some = λ low.
          has_there may.stand c.requires.level c.requires.highest (c.loop-window.window + 1) c.windows_end-end.result c.first_window-window-in-loop-window.result low
          (c.first_window-window-in-loop-window.ensures.first (places (stand_on c.args.next_time may.level may.stand.time may.stand.rank) keys) may.stand.are);
    }

pub returns-clause-none : goal.returns-clause-none
returns-clause-none g c = λ levels stand.
    none_at_end stand c.requires.level c.requires.highest c.loop-window.window c.loop-window.earliest.time
    (omega (arith, c.loop-window-test.false, c.windows_end-end.ensures)) (c.loop-window.invariant.none_so_far levels stand)
