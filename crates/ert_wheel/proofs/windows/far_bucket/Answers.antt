use Rattle.std.proofs.Common.{arith}
use Rattle.ert_wheel.proofs.windows.far_bucket.Goals as goal

pub returns-then-time-next_time-clause-is : goal.returns-then-time-next_time-clause-is
returns-then-time-next_time-clause-is c = record {
  level = 2;
  least = record {
    highest = omega arith;
    near = omega (arith, c.if-time-next_time.true);
    beyond = λ _. omega (arith, c.requires.far);
  };
  is = c.bucket_on.ensures.is;
}

pub returns-then-time-next_time-2-clause-is : goal.returns-then-time-next_time-2-clause-is
returns-then-time-next_time-2-clause-is c = record {
  level = 3;
  least = record {
    highest = omega arith;
    near = omega (arith, c.if-time-next_time-2.true);
    beyond = λ _. omega (arith, c.if-time-next_time.false);
  };
  is = c.bucket_on-then-time-next_time-2.ensures.is;
}
