use Rattle.lalrpop_ambiguity.specs.Words.{tree_nodes}
use Rattle.lalrpop_ambiguity.proofs.derivation.Derivation.+drop.Given as goal

-- each turn drops one node
abbrev pub decreases-loop-tree : goal.decreases-loop-tree
decreases-loop-tree l = tree_nodes l.rest.items
