use Rattle.std.proofs.Common.{◌≡◌, ℕ, length, vec_capacity}
use Rattle.ert_wheel.specs.Links.{node_link}
use Rattle.ert_wheel.proofs.links.add_alone.Given as goal

abbrev pub invariant-loop-node : goal.invariant-loop-node
invariant-loop-node l = record {
  count : length l.links.items ≡ l.node;
  same : (node : ℕ) → node_link l.links.items node ≡ node_link l.initial.links.items node;
  capacity : vec_capacity l.links ≡ vec_capacity l.initial.links;
}
