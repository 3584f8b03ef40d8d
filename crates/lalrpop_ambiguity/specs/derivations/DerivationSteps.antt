-- The steps of a walk over a derivation tree from left to right, and the tree and the text that
-- steps make: Knuth, "The Art of Computer Programming", volume 1, section 2.3.1.
use Rattle.std.specs.Prelude.{◌≡◌, ℕ, Bool, true, false, List, [], ◌∷◌, ◌++◌, map, reverse, codes, Option, None, Some}
use Rattle.lalrpop_grammar.specs.grammars.Names.{nonterminal_text, symbol_text}
use Rattle.lalrpop_grammar.specs.declared.repr.Production.{Production}
use Rattle.lalrpop_grammar.specs.declared.repr.Symbol.{Symbol}
use Rattle.lalrpop_ambiguity.specs.declared.derivation.Derivation.{Derivation}
use Rattle.lalrpop_ambiguity.specs.declared.derivation.walk.DerivationStep.{DerivationStep}
use Rattle.lalrpop_ambiguity.specs.declared.derivation.walk.DerivationStep.TheVariants.{Enter, Meet, Leave}
use Rattle.lalrpop_ambiguity.specs.declared.derivation.walk.DerivationWalk.{DerivationWalk}
use Rattle.lalrpop_ambiguity.specs.declared.derivation.walk.Rest.{Rest}
use Rattle.lalrpop_ambiguity.specs.declared.derivation.copies.OpenNode.{OpenNode}
use Rattle.lalrpop_ambiguity.specs.derivations.Derivations.{Tree, Leaf, Node, Trees, no_trees, beside, trees_of}
use Rattle.lalrpop_ambiguity.specs.derivations.Represented.{tree_of, separator_text}

-- a step: it enters a node, meets a leaf, or leaves a node
pub data Step : Type 0 where
  enters : Production → Step
  meets_leaf : Symbol → Step
  leaves_node : Step

-- the step that a value of the code represents
abbrev pub step_of : DerivationStep → Step
step_of (Enter production) = enters production.now
step_of (Meet symbol) = meets_leaf symbol.now
step_of Leave = leaves_node

-- the trees that values of the code represent, beside one another
abbrev pub forest_of : List Derivation → Trees
forest_of trees = trees_of (map tree_of trees)

-- the steps over trees beside one another
abbrev pub steps_over : Trees → List Step
steps_over no_trees = []
steps_over (beside (Leaf x) ts) = meets_leaf x ∷ steps_over ts
steps_over (beside (Node p children) ts) = enters p ∷ (steps_over children ++ (leaves_node ∷ steps_over ts))

-- the steps over the trees that are left here. Then, for each node around, the innermost first, the
-- step out of it and the steps over the trees that are left beside it
abbrev pub steps_left : Trees → List Trees → List Step
steps_left here [] = steps_over here
steps_left here (beside_node ∷ outer) = steps_over here ++ (leaves_node ∷ steps_left beside_node outer)

-- the trees that are left in the nodes around, the innermost first
abbrev pub around_of : DerivationWalk → List Trees
around_of walk = reverse (map (λ (rest : Rest). forest_of rest.trees.now) walk.around.items)

-- the steps that a walk has left
abbrev pub steps_of : DerivationWalk → List Step
steps_of walk = steps_left (forest_of walk.here.trees.now) (around_of walk)

-- the walk made a step, or had none left
abbrev pub GivesStep : Option DerivationStep → List Step → List Step → Type 0
GivesStep None old new = old ≡ []
GivesStep (Some step) old new = old ≡ step_of step ∷ new

-- ---- the tree that steps make
-- the tree that steps make from inside a node, which has its production and the trees so far. The
-- nodes around it are listed, the innermost first. At the end the tree is the node that the steps
-- are in
abbrev pub tree_by : Production → List Tree → List (Production × List Tree) → List Step → Tree
tree_by p made around [] = Node p (trees_of made)
tree_by p made around (meets_leaf x ∷ steps) = tree_by p (made ++ Leaf x ∷ []) around steps
tree_by p made around (enters inner ∷ steps) = tree_by inner [] ((p, made) ∷ around) steps
tree_by p made [] (leaves_node ∷ steps) = tree_by p made [] steps
tree_by p made ((outer, before) ∷ around) (leaves_node ∷ steps) = tree_by outer (before ++ Node p (trees_of made) ∷ []) around steps

-- a node of the code that does not have all its children yet
abbrev pub open_node : OpenNode → Production × List Tree
open_node node = (node.production.now, map tree_of node.children.items)

-- the tree that steps make from inside a node of the code, within others, the innermost of them
-- last
abbrev pub tree_within : OpenNode → List OpenNode → List Step → Tree
tree_within node around steps = tree_by node.production.now (map tree_of node.children.items) (reverse (map open_node around)) steps

-- ---- the text that steps write
-- whether the tree after the step is the first child of its node
abbrev pub is_entering : Step → Bool
is_entering (enters p) = true
is_entering (meets_leaf x) = false
is_entering leaves_node = false

-- the text of a step
abbrev pub step_text : Bool → Step → List ℕ
step_text is_first (enters p) = separator_text is_first ++ (codes "[" ++ (nonterminal_text p.nonterminal ++ codes ": "))
step_text is_first (meets_leaf x) = separator_text is_first ++ symbol_text x
step_text is_first leaves_node = codes "]"

-- the text of steps
abbrev pub steps_text : Bool → List Step → List ℕ
steps_text is_first [] = []
steps_text is_first (step ∷ steps) = step_text is_first step ++ steps_text (is_entering step) steps
