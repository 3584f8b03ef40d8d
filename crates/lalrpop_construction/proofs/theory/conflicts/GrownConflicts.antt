-- The conflicts of states, with one more state, and the states as a result.
use Rattle.std.proofs.Common.{◌≡◌, zero, suc, List, [], ◌∷◌, ◌++◌, map, refl, sym, ◌∙◌, ap, subst}
use Rattle.std.specs.List.{flat_map}
use Rattle.std.proofs.lemmas.List.{append-nil}
use Rattle.std.proofs.lemmas.Grind.{flat_map-append}
use Rattle.lalrpop_base.specs.Words.{Bits, AreAllConflictFree, Rules, IsClosureBy, ListsAll, more, state_conflicts, item_at_start, AreBuiltBy}
use Rattle.lalrpop_construction.specs.Words.{Construction, AreStatesFor}
use Rattle.lalrpop_states.specs.conflicts.StateConflicts.{IsConflictFree}
use Rattle.lalrpop_states.proofs.theory.conflicts.ConflictLemmas.{none_exactly, both_empty}
use Rattle.lalrpop_collections.proofs.theory.lists.Places.{same_some}
use Rattle.lalrpop_construction.proofs.Types.{Conflict, State, Symbol, TerminalString, Token}
use Rattle.lalrpop_states.specs.conflicts.AllConflicts.{none}
use Rattle.lalrpop_construction.proofs.theory.construction.Coherence.{Built-coherent, Built-some}
use Rattle.lalrpop_construction.proofs.theory.construction.Shifting.{begun_zero}

module _ {L : Type 0} (lists : State L → List TerminalString → List (Conflict L) → Type 0) (terminals : List TerminalString) where
  -- the list has the conflicts of the states, and those of the next state
  pub Listed-more : (states grown : List (State L)) (state : State L) (old new : List (Conflict L)) → ListsAll lists terminals states old → (own : List (Conflict L)) × lists state terminals own × (new ≡ old ++ own) → grown ≡ states ++ state ∷ [] → ListsAll lists terminals grown new
  Listed-more states grown state old new a o e = more state o.0 a o.1 e o.2

-- if the conflicts of each state are one list, so are those of all states
module _ {L : Type 0} (own : List TerminalString → State L → List (Conflict L)) (terminals : List TerminalString) where
  pub All-listed : {states : List (State L)} {list : List (Conflict L)} → ListsAll (λ s ts cs. cs ≡ own ts s) terminals states list → list ≡ flat_map (own terminals) states
  All-listed none = refl
  All-listed (more {before} {all} {old} {new} state here h e s n) =
      let f = own terminals in
      let one : flat_map f (state ∷ []) ≡ f state = append-nil (f state) in
      n ∙ ap (λ cs. cs ++ here) (All-listed h) ∙ ap (λ cs. flat_map f before ++ cs) (e ∙ sym one) ∙ sym (flat_map-append f before (state ∷ [])) ∙ ap (flat_map f) (sym s)

pub free_states : (terminals : List TerminalString) (states : List (State Bits)) → flat_map (state_conflicts terminals) states ≡ [] → AreAllConflictFree terminals states
free_states terminals [] e k state at = cc
free_states terminals (s ∷ states) e zero state at =
    let first = both_empty (state_conflicts terminals s) (flat_map (state_conflicts terminals) states) e in
    subst (λ (x : State Bits). IsConflictFree terminals x) (same_some s state at) ((none_exactly terminals s).0 first.0)
free_states terminals (s ∷ states) e (suc k) state at =
    let first = both_empty (state_conflicts terminals s) (flat_map (state_conflicts terminals) states) e in
    free_states terminals states first.1 k state at

-- ---- the states
module _ {L : Type 0} (meaning : L → Bits) (begins : Rules → List Symbol → Token → Type 0) (passes : Rules → List Symbol → Type 0) (lists : State L → List TerminalString → List (Conflict L) → Type 0) (c : Construction L) where
  pub States-of : (states : List (State L)) → AreBuiltBy (IsClosureBy meaning begins passes c.rules) (map (item_at_start c.lookahead) c.first) states → AreStatesFor meaning begins passes lists c states
  States-of states b =
      let first = map (item_at_start c.lookahead) c.first in
      record {
        built = b;
        some = Built-some (IsClosureBy meaning begins passes c.rules) (λ k is x. x.begun) first states b;
        coherent = Built-coherent (IsClosureBy meaning begins passes c.rules) (λ k is x. x.begun) first states b (begun_zero c.lookahead c.first);
      }
