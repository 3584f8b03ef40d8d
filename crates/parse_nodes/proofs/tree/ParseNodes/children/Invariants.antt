use Rattle.std.proofs.Common.{◌≡◌}
use Rattle.parse_nodes.specs.Children.{first_number}
use Rattle.parse_nodes.proofs.Children.{HasWalked}
use Rattle.parse_nodes.proofs.tree.ParseNodes.children.Given as goal

abbrev pub decreases-loop-place : goal.decreases-loop-place
decreases-loop-place l = l.place

abbrev pub invariant-loop-place : goal.invariant-loop-place
invariant-loop-place l = record {
  first : l.first ≡ first_number l.self.nodes.items l.number;
  walked : HasWalked l.self.nodes.items l.number l.place l.children.items;
}
