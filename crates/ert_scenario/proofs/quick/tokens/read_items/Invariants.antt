use Rattle.std.proofs.Common.{length}
use Rattle.ert_scenario.proofs.QuickLemmas.{ItemsSoFar}
use Rattle.ert_scenario.proofs.quick.tokens.read_items.Given as goal

abbrev pub invariant-items : goal.invariant-items
invariant-items l = ItemsSoFar l.initial.reader l.reader l.items.items

abbrev pub decreases-items : goal.decreases-items
decreases-items l = length l.reader
