use Rattle.ert_names.proofs.Books.{inverse_empty}
use Rattle.ert_names.proofs.registry.Registry.new.Goals as goal

pub invariant_of-result : goal.invariant_of-result
invariant_of-result c = inverse_empty c.new.result.entries c.new-2.result.entries c.new.ensures.empty c.new-2.ensures.empty
