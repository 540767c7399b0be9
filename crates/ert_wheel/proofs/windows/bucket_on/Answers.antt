use Rattle.std.proofs.Common.{◌%◌, ap, arith}
use Rattle.ert_wheel.proofs.WindowBits.{masked, bucket_low}
use Rattle.ert_wheel.proofs.windows.bucket_on.Goals as goal

pub returns-clause-low : goal.returns-clause-low
returns-clause-low c =
    omega (arith, masked c.args.level c.window_on.result, ap (λ w. w % 1024) c.window_on.ensures, bucket_low c.args.level c.args.time c.requires.level c.requires.time)
