use Rattle.ert_script.proofs.Indexes.{found_ref}
use Rattle.ert_script.proofs.label_map.LabelMap.reference.Goals as goal

pub returns-in-Some : goal.returns-in-Some
returns-in-Some c = found_ref _ _ _ _ c.args.label _ c.self.invariant c.self.view_is c.in-Some.ensures.value

pub returns-in-None : goal.returns-in-None
returns-in-None c = found_ref _ _ _ _ c.args.label _ c.self.invariant c.self.view_is c.in-None.ensures.value
