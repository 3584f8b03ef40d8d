use Rattle.std.proofs.Common.{◌≡◌, ◌↔◌, drop, map}
use Rattle.lalrpop_ambiguity.specs.Words.{tree_of}
use Rattle.lalrpop_ambiguity.proofs.derivation.comparison.+equal.Given as goal

-- the lists are the same exactly if what is left of them is
abbrev pub invariant-have_equal_by_depth-trees : goal.invariant-have_equal_by_depth-trees
invariant-have_equal_by_depth-trees l =
    (map tree_of (drop l.place l.tree-items) ≡ map tree_of (drop l.place l.others.items)) ↔ (map tree_of l.tree-items ≡ map tree_of l.others.items)
