use Rattle.std.proofs.Common.{refl}
use Rattle.lalrpop_base.specs.Words.{Node, trees_of}
use Rattle.std.specs.Prelude.{◌∷◌, ◌++◌}
use Rattle.parse_nodes.proofs.Children.{child_tree, whole_tree}
use Rattle.parse_nodes.proofs.laws.has_trees.Goals as goal

pub returns-clause-whole : goal.returns-clause-whole
returns-clause-whole c = whole_tree

pub returns-clause-children : goal.returns-clause-children
returns-clause-children _ terminals productions listed first a ts t us has = child_tree terminals productions listed first (Node a (trees_of (ts ++ t ∷ us))) has ts t us refl
