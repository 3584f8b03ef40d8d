use Rattle.std.proofs.Common.{◌≡◌, ◌++◌, drop}
use Rattle.lalrpop_follow_sets.specs.follow_sets.FollowNodes.{nonterminals_of}
use Rattle.lalrpop_follow_sets.proofs.follow_sets.nodes.add_nodes.Given as goal

abbrev pub invariant-loop-edge : goal.invariant-loop-edge
invariant-loop-edge l = l.pairs.items ++ nonterminals_of l.symbols l.state (drop l.edge-index l.edges) ≡ l.fn.pairs.items ++ nonterminals_of l.symbols l.state l.edges
