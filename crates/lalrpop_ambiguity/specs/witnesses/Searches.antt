-- Results of a search for a witness of ambiguity.
use Rattle.std.specs.Prelude.{◌≡◌, ℕ, ⊤}
use Rattle.lalrpop_ambiguity.specs.declared.search.Search.{Search}
use Rattle.lalrpop_ambiguity.specs.declared.search.Search.TheVariants.{Found, Exhausted, Cut}
use Rattle.lalrpop_ambiguity.specs.declared.witness.Ambiguity.{Ambiguity}
use Rattle.lalrpop_ambiguity.specs.derivations.Moves.{HaveInCommon, moves_of}
use Rattle.lalrpop_ambiguity.specs.derivations.Represented.{tree_of}

-- if the search found two derivations, something is true of them
abbrev pub IfFound : (Ambiguity → Type 0) → Search → Type 0
IfFound P (Found found) = P found
IfFound P Exhausted = ⊤
IfFound P Cut = ⊤

-- the two derivations that a search found have n moves in common. If it found none, n is 0
abbrev pub AreCommonMoves : ℕ → Search → Type 0
AreCommonMoves n (Found found) = HaveInCommon n (moves_of (tree_of found.left)) (moves_of (tree_of found.right))
AreCommonMoves n Exhausted = n ≡ 0
AreCommonMoves n Cut = n ≡ 0
