use Rattle.ert_wheel.proofs.WindowBits.{shifted}
use Rattle.ert_wheel.proofs.windows.begin_of.Goals as goal

pub returns : goal.returns
returns c = shifted c.args.window c.args.level c.requires.fits
