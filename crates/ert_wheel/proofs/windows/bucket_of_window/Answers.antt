use Rattle.std.proofs.Common.{arith}
use Rattle.ert_wheel.proofs.WindowBits.{masked, few_buckets}
use Rattle.ert_wheel.proofs.windows.bucket_of_window.Goals as goal

pub returns-clause-low : goal.returns-clause-low
returns-clause-low c =
    omega (arith, masked c.args.level c.args.window, few_buckets c.args.level c.args.window c.requires.level c.requires.window)
