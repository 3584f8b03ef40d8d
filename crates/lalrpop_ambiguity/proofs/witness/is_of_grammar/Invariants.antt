use Rattle.std.proofs.Common.{◌↔◌}
use Rattle.lalrpop_grammar.specs.Words.{productions}
use Rattle.lalrpop_ambiguity.specs.Words.{AreOfGrammar, beside, no_trees, nodes, tree_of, trees_at, trees_of}
use Rattle.lalrpop_ambiguity.proofs.witness.is_of_grammar.Given as goal

-- the derivation is of the grammar exactly if the trees on the stack are
abbrev pub invariant-loop-next : goal.invariant-loop-next
invariant-loop-next l =
    AreOfGrammar (productions l.grammar) (trees_of (trees_at l.left.items)) ↔ AreOfGrammar (productions l.grammar) (beside (tree_of l.tree) no_trees)

-- each turn reads one node
abbrev pub decreases-loop-next : goal.decreases-loop-next
decreases-loop-next l = nodes (trees_of (trees_at l.left.items))
