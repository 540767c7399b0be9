use Rattle.ert_script.proofs.Indexes.{found_bound}
use Rattle.ert_script.proofs.label_map.LabelMap.bind.Goals as goal

pub invariant_of-self-in-Ok : goal.invariant_of-self-in-Ok
invariant_of-self-in-Ok c =
    rw (c.push_reserved.ensures.items, c.reserve.ensures.items)
    (found_bound _ _ _ _ _ c.args.label c.args.timer.now c.in_ok-is_new.ensures.ok (rw c.key_of.ensures at c.in-Ok.ensures.ok) c.self.invariant)
