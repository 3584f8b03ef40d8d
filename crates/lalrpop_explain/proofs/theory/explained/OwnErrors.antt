-- The tests of the conditions under which conflicts are explained.
use Rattle.std.proofs.Common.{List}
use Rattle.lalrpop_base.specs.Words.{Bits, EachItem, IsWellFormed, productions, rules_of}
use Rattle.lalrpop_collections.proofs.theory.lists.Lists.{contains_place}
use Rattle.lalrpop_grammar.proofs.theory.grammars.Grammars.{known_symbols}
use Rattle.lalrpop_lanes.specs.Words.{HaveOwnItems}
use Rattle.lalrpop_explain.specs.Words.{AreOwnConflicts, AreOwnStates, IsOwnConflict}
use Rattle.lalrpop_explain.proofs.Types.{Conflict, Grammar, Production, State, StateIndex}

module _ (g : Grammar) (states : List (State Bits)) where
  -- the states of a well-formed grammar are its own if their items have its productions
  pub own_of_items : IsWellFormed g → HaveOwnItems (productions g) states → AreOwnStates (rules_of g) states
  own_of_items well own = record {
    known = λ p c. known_symbols g p well c;
    items = λ n i h. own n.0 h.0 i h.1 h.2;
  }

  pub items_of_own : AreOwnStates (rules_of g) states → HaveOwnItems (productions g) states
  items_of_own own n state item at c =
      let number : StateIndex = record { 0 = n } in
      own.items number item (state, at, c)

-- conflicts each of which is by productions of a list, by their places
pub own_by_places : (productions : List Production) (conflicts : List (Conflict Bits)) → EachItem (λ (c : Conflict Bits). IsOwnConflict productions c) conflicts → AreOwnConflicts productions conflicts
own_by_places productions conflicts each c i = let at = contains_place conflicts c i in each at.0 c at.1
