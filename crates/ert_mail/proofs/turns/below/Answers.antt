use Rattle.std.proofs.Common.{refl}
use Rattle.std.proofs.{Math.Nat.sub-zero, lemmas.Iterator.{items_from_collect, YieldsList-from_range}}
use Rattle.ert_mail.proofs.turns.below.Goals as goal

pub returns : goal.returns
returns c =
    items_from_collect c.collect.result c.collect.ensures.ran
    (YieldsList-from_range 0 c.args.bound c.args.bound refl (sub-zero c.args.bound))
