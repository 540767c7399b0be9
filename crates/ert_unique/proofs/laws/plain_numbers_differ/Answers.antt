use Rattle.ert_unique.proofs.Differing.{plain_differ}
use Rattle.ert_unique.proofs.laws.plain_numbers_differ.Goals as goal

pub returns : goal.returns
returns c = plain_differ c.args.passes.now.items c.requires
