use Rattle.std.proofs.Common.{◌∙◌, ap, arith, length}
use Rattle.std.proofs.lemmas.List.{length_push}
use Rattle.ert_wheel.proofs.Stored.{node_added}
use Rattle.ert_wheel.specs.Links.{node_link, lone_link}
use Rattle.ert_wheel.proofs.links.add_alone.Goals as goal

pub loop-node-preserved : goal.loop-node-preserved
loop-node-preserved c =
    let items = c.push_reserved.ensures.items in
    record {
      count = omega (arith, ap length items, length_push c.loop-node.links.items (lone_link c.loop-node.node), c.loop-node.invariant.count);
      same = λ node. ap (λ ls. node_link ls node) items
          ∙ (node_added c.loop-node.links.items c.loop-node.node node c.loop-node.invariant.count ∙ c.loop-node.invariant.same node);
      capacity = c.push_reserved.ensures.capacity ∙ c.loop-node.invariant.capacity;
    }
