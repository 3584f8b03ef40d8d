-- The moves of a bottom-up parser that makes a derivation tree: Aho, Sethi and Ullman, section 4.5.
-- They are the leaves and the inner nodes in postorder: Knuth, "The Art of Computer Programming",
-- volume 1, section 2.3.1.
use Rattle.std.specs.Prelude.{◌≡◌, ◌≤◌, ℕ, List, [], ◌∷◌, ◌++◌, length, map, reverse, slice_get, take, Some}
use Rattle.std.specs.Borrow.{Bor}
use Rattle.lalrpop_grammar.specs.declared.repr.Production.{Production}
use Rattle.lalrpop_grammar.specs.declared.repr.Symbol.{Symbol}
use Rattle.lalrpop_ambiguity.specs.declared.derivation.moves.DerivationMove.{DerivationMove}
use Rattle.lalrpop_ambiguity.specs.declared.derivation.moves.DerivationMove.TheVariants.{Read, Reduce}
use Rattle.lalrpop_ambiguity.specs.derivations.Derivations.{Tree, Leaf, Node, Trees, no_trees, beside}
use Rattle.lalrpop_ambiguity.specs.derivations.DerivationSteps.{Step, enters, meets_leaf, leaves_node}

-- a move of the parser: it reads a symbol, or reduces by a production
pub data Move : Type 0 where
  reads : Symbol → Move
  reduces : Production → Move

-- the moves that make trees beside one another. A node is made after its children
abbrev pub moves_over : Trees → List Move
moves_over no_trees = []
moves_over (beside (Leaf x) ts) = reads x ∷ moves_over ts
moves_over (beside (Node p children) ts) = moves_over children ++ (reduces p ∷ moves_over ts)

-- the moves that make a tree
abbrev pub moves_of : Tree → List Move
moves_of t = moves_over (beside t no_trees)

-- two lists of moves have their first n moves in common, and no more
pub record HaveInCommon (n : ℕ) (left right : List Move) : Type 0 where
  pub within : n ≤ length left
  pub same : take n left ≡ take n right
  pub differ : (m : Move) → slice_get left n ≡ Some m → slice_get right n ≡ Some m → ⊥

-- ---- the moves of a walk
-- the move that a value of the code represents
abbrev pub move_of : DerivationMove → Move
move_of (Read symbol) = reads symbol.now
move_of (Reduce production) = reduces production.now

-- the moves that steps make inside nodes with these productions, the innermost first
abbrev pub moves_by : List Production → List Step → List Move
moves_by around [] = []
moves_by around (enters p ∷ steps) = moves_by (p ∷ around) steps
moves_by around (meets_leaf x ∷ steps) = reads x ∷ moves_by around steps
moves_by [] (leaves_node ∷ steps) = moves_by [] steps
moves_by (p ∷ around) (leaves_node ∷ steps) = reduces p ∷ moves_by around steps

-- the moves so far, and those that steps make inside nodes of the code, the innermost of them last
abbrev pub moves_with : List DerivationMove → List (Bor Production) → List Step → List Move
moves_with made around steps = map move_of made ++ moves_by (reverse (map (λ (p : Bor Production). p.now) around)) steps
