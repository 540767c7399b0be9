use Rattle.std.proofs.Common.{◌+◌, ◌*◌, ◌^◌, arith, ap}
use Rattle.ert_wheel.proofs.{NextDue.{none_above, none_at_all, none_more}, Standing.begin_after}
use Rattle.ert_wheel.proofs.levels.early_above.Goals as goal
use Rattle.ert_wheel.specs.Wheels.{held_keys}

pub begin_of-requires-clause-fits : goal.begin_of-requires-clause-fits
begin_of-requires-clause-fits g c =
    let fits = begin_after c.loop-level.level c.args.next_time c.loop-level-test.true c.requires.may.stand.fits in
    omega (arith, fits, ap (λ w. (w + 1) * 512 ^ c.loop-level.level) c.window_on.ensures)

pub returns-then-begin_of-earliest-clause-none_before : goal.returns-then-begin_of-earliest-clause-none_before
returns-then-begin_of-earliest-clause-none_before g c =
    let may = c.requires.may in
    none_above c.loop-level.level c.loop-level.earliest.time may.stand c.loop-level.invariant.above
    (omega (
      arith,
      c.if-begin_of-earliest.true,
      c.begin_of.ensures,
      ap (λ w. (w + 1) * 512 ^ c.loop-level.level) c.window_on.ensures,
    ))
    (c.loop-level.invariant.none may.level may.stand may.none)

pub loop-level-preserved : goal.loop-level-preserved
loop-level-preserved g c = record {
  above = omega arith;
  highest = omega (arith, c.loop-level-test.true);
  early_is = c.early_on-earliest.ensures.early;
  none = λ levels stand lowest.
      none_more (held_keys c.args.chains.now c.args.kept.now.keys) levels c.loop-level.level c.loop-level.earliest.time c.early_on-earliest.result.time
      c.early_on-earliest.ensures.low (c.loop-level.invariant.none levels stand lowest) (c.early_on-earliest.ensures.none levels stand);
}

pub returns-clause-none_before : goal.returns-clause-none_before
returns-clause-none_before g c =
    let may = c.requires.may in
    none_at_all c.loop-level.level c.loop-level.earliest.time may.stand c.loop-level-test.false (c.loop-level.invariant.none may.level may.stand may.none)
