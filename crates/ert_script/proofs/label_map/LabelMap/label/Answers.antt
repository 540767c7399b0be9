use Rattle.std.proofs.Common.{rules}
use Rattle.ert_script.proofs.Indexes.{found_label}
use Rattle.ert_script.proofs.label_map.LabelMap.label.Goals as goal

pub returns-in-Some : goal.returns-in-Some
returns-in-Some c =
    found_label _ _ _ _ c.args.timer.now _ c.self.invariant c.self.view_is (search rules) (rw c.key_of.ensures at c.in-Some.ensures.value)

pub returns-in-None : goal.returns-in-None
returns-in-None c =
    found_label _ _ _ _ c.args.timer.now _ c.self.invariant c.self.view_is (search rules) (rw c.key_of.ensures at c.in-None.ensures.value)
