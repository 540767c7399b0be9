use Rattle.std.proofs.Common.{◌/◌, ap}
use Rattle.ert_wheel.proofs.WindowBits.{size}
use Rattle.ert_wheel.proofs.windows.window_on.Goals as goal

pub returns : goal.returns
returns c = ap (λ m. c.args.time / m) (size c.args.level)
