use Rattle.std.proofs.Common.{◌+◌, ◌/◌, arith}
use Rattle.ert_wheel.proofs.WindowBits.{masked}
use Rattle.ert_wheel.proofs.windows.bucket_after.Goals as goal

pub returns-clause-low : goal.returns-clause-low
returns-clause-low c = omega (arith, masked 1 (c.args.time / 512 + 1))
