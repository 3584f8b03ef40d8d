-- Lists of explained items and of explained conflicts, which grow one by one.
use Rattle.std.proofs.Common.{◌≡◌, ◌≢◌, ℕ, List, [], ◌∷◌, ◌++◌, sym, subst}
use Rattle.std.specs.Prelude.{Some, slice_get}
use Rattle.lalrpop_base.specs.Words.{Bits, Dotted, Rules}
use Rattle.lalrpop_grammar.specs.declared.repr.Symbol.TheVariants.{Terminal}
use Rattle.lalrpop_explain.specs.Words.{AddsIfShifting, AreExplained, AreExplainedShifts, IsExplained, IsExplainedShift}
use Rattle.lalrpop_explain.specs.explained.ExplainedConflicts.{added, no_conflict, no_item, one_conflict, other, same, shifting}
use Rattle.lalrpop_explain.specs.declared.explain.ExplainedConflict.{ExplainedConflict}
use Rattle.lalrpop_explain.specs.declared.explain.ExplainedItem.{ExplainedItem}
use Rattle.lalrpop_explain.proofs.Types.{Conflict, State, StateIndex, TerminalString}

module _ (g : Rules) (states : List (State Bits)) (most : ℕ) where
  module _ (state : StateIndex) (t : TerminalString) where
    -- an item more is explained if it shifts the terminal
    item_more : (items : List (Dotted Bits)) (old : List ExplainedItem) (item : Dotted Bits) (x : ExplainedItem) → AreExplainedShifts g states most state t items old → slice_get item.production.symbols item.index ≡ Some (Terminal t) → IsExplainedShift g states most state item x →
        AreExplainedShifts g states most state t (items ++ item ∷ []) (old ++ x ∷ [])
    item_more [] [] item x no_item at is = shifting at is no_item
    item_more [] (y ∷ ys) item x h at is = elim h [ ]
    item_more (i ∷ items) (y ∷ ys) item x (shifting first own others) at is = shifting first own (item_more items ys item x others at is)
    item_more (i ∷ items) ys item x (other not others) at is = other not (item_more items ys item x others at is)

    -- and else it is passed over
    item_passed : (items : List (Dotted Bits)) (old : List ExplainedItem) (item : Dotted Bits) → AreExplainedShifts g states most state t items old → slice_get item.production.symbols item.index ≢ Some (Terminal t) → AreExplainedShifts g states most state t (items ++ item ∷ []) old
    item_passed [] [] item no_item not = other not no_item
    item_passed [] (y ∷ ys) item h not = elim h [ ]
    item_passed (i ∷ items) (y ∷ ys) item (shifting first own others) not = shifting first own (item_passed items ys item others not)
    item_passed (i ∷ items) ys item (other first others) not = other first (item_passed items ys item others not)

    pub shifts_more : (items : List (Dotted Bits)) (item : Dotted Bits) (old new : List ExplainedItem) → AreExplainedShifts g states most state t items old → AddsIfShifting g states most state t item old new → AreExplainedShifts g states most state t (items ++ item ∷ []) new
    shifts_more items item old new h (added at x is grown) = subst (λ (xs : List ExplainedItem). AreExplainedShifts g states most state t (items ++ item ∷ []) xs) (sym grown) (item_more items old item x h at is)
    shifts_more items item old new h (same not kept) = subst (λ (xs : List ExplainedItem). AreExplainedShifts g states most state t (items ++ item ∷ []) xs) (sym kept) (item_passed items old item h not)

  -- a conflict more is explained
  pub conflict_more : (cs : List (Conflict Bits)) (old : List ExplainedConflict) (c : Conflict Bits) (x : ExplainedConflict) → AreExplained g states most cs old → IsExplained g states most c x → AreExplained g states most (cs ++ c ∷ []) (old ++ x ∷ [])
  conflict_more [] [] c x no_conflict is = one_conflict is no_conflict
  conflict_more [] (y ∷ ys) c x h is = elim h [ ]
  conflict_more (d ∷ cs) [] c x h is = elim h [ ]
  conflict_more (d ∷ cs) (y ∷ ys) c x (one_conflict first others) is = one_conflict first (conflict_more cs ys c x others is)
