-- The causes of conflicts as JSON, with what a search for a witness of ambiguity found.
use Rattle.std.specs.Prelude.{ℕ, List, ◌++◌, map, codes}
use Rattle.std.specs.Fmt.{decimal}
use Rattle.std.specs.List.{All}
use Rattle.json.specs.Print.{quoted}
use Rattle.lalrpop_base.specs.Words.{Bits}
use Rattle.lalrpop_ambiguity.specs.declared.search.Search.{Search}
use Rattle.lalrpop_ambiguity.specs.declared.search.Search.TheVariants.{Found, Exhausted, Cut}
use Rattle.lalrpop_ambiguity.specs.declared.derivation.Derivation.{Derivation}
use Rattle.lalrpop_ambiguity.specs.derivations.MarkedTexts.{marked_text}
use Rattle.lalrpop_ambiguity.specs.derivations.Represented.{tree_of}
use Rattle.lalrpop_ambiguity.specs.witnesses.Searches.{AreCommonMoves, IfFound}
use Rattle.lalrpop_ambiguity.specs.witnesses.Witnesses.{IsWitness}
use Rattle.lalrpop_grammar.specs.declared.repr.Production.{Production}
use Rattle.lalrpop_states.specs.declared.lr1_core.state.Conflict.{Conflict}
use Rattle.lalrpop_states.specs.declared.lr1_core.state.State.{State}
use Rattle.conflict_causes.specs.Causes.{AreCauses}
use Rattle.table_data.specs.declared.causes.ShownCause.{ShownCause}
use Rattle.table_data.specs.Json.{array}

-- a derivation in brackets with a mark after so many moves, as a string
abbrev pub derivation_json : ℕ → Derivation → List ℕ
derivation_json moves d = quoted (marked_text moves (tree_of d))

-- how a search ended, and the two derivations of a witness with a mark after so many moves
abbrev pub search_json : ℕ → Search → List ℕ
search_json moves (Found a) = codes "\"found\",\"derivations\":[" ++ (derivation_json moves a.left ++ (codes "," ++ (derivation_json moves a.right ++ codes "]")))
search_json moves Exhausted = codes "\"exhausted\",\"derivations\":[]"
search_json moves Cut = codes "\"cut\",\"derivations\":[]"

-- a cause: the numbers of its conflicts, and what the search found
abbrev pub cause_json : ShownCause → List ℕ
cause_json shown = codes "{\"conflicts\":" ++ (array (codes ",") decimal shown.conflicts.items ++ (codes ",\"search\":" ++ (search_json shown.moves shown.search ++ codes "}")))

-- what a search found is a witness of ambiguity
abbrev pub HasWitness : List Production → Search → Type 0
HasWitness g search = IfFound (λ found. IsWitness g (tree_of found.left) (tree_of found.right)) search

-- the causes of the conflicts are shown, each with a witness if the search found one. The number of
-- moves is that which the two derivations have in common
pub record AreShownCauses (g : List Production) (states : List (State Bits)) (conflicts : List (Conflict Bits)) (shown : List ShownCause) : Type 0 where
  pub causes : AreCauses states conflicts (map (λ (s : ShownCause). s.conflicts.items) shown)
  pub searches : All (λ (s : ShownCause). HasWitness g s.search) shown
  pub moves : All (λ (s : ShownCause). AreCommonMoves s.moves s.search) shown
