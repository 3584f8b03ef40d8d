-- An explained conflict: the items of its two actions, each with its first examples of input. A
-- reduction of a conflict is explained by its finished item. A shift is explained by the items of
-- the state that shift the terminal.
use Rattle.std.specs.Prelude.{◌≡◌, ◌≢◌, ℕ, List, [], ◌∷◌, ◌++◌, length, slice_get, Some}
use Rattle.lalrpop_base.specs.Words.{Bits, Dotted, Rules}
use Rattle.lalrpop_states.specs.declared.lr1_core.state.Action.{Action}
use Rattle.lalrpop_states.specs.declared.lr1_core.state.Action.TheVariants.{Shift, Reduce}
use Rattle.lalrpop_states.specs.declared.lr1_core.state.Conflict.{Conflict}
use Rattle.lalrpop_states.specs.declared.lr1_core.state.State.{State}
use Rattle.lalrpop_states.specs.declared.lr1_core.state.StateIndex.{StateIndex}
use Rattle.lalrpop_grammar.specs.declared.repr.Production.{Production}
use Rattle.lalrpop_grammar.specs.declared.repr.Symbol.TheVariants.{Terminal}
use Rattle.lalrpop_grammar.specs.declared.repr.TerminalString.{TerminalString}
use Rattle.lalrpop_traces.specs.Words.{items_at}
use Rattle.lalrpop_explain.specs.declared.explain.ExplainedConflict.{ExplainedConflict}
use Rattle.lalrpop_explain.specs.declared.explain.ExplainedItem.{ExplainedItem}
use Rattle.lalrpop_explain.specs.explained.FirstExamples.{AreReduceExamples, AreShiftExamples}

-- the rules of a grammar, the states of its conflicts, and the greatest number of examples of an
-- item
module _ (g : Rules) (states : List (State Bits)) (most : ℕ) where
  -- a reduction is explained by its finished item, with the first examples that can go on with a
  -- token of the lookahead
  pub record IsExplainedReduction (state : StateIndex) (lookahead : Bits) (p : Production) (x : ExplainedItem) : Type 0 where
    pub production : x.production.now ≡ p
    pub index : x.index ≡ length p.symbols
    pub examples : AreReduceExamples g states most state (record { production = p; index = length p.symbols; lookahead = lookahead }) x.examples.items

  -- the list has the explained finished item of a reduction alone
  pub record IsExplainedAlone (state : StateIndex) (lookahead : Bits) (p : Production) (xs : List ExplainedItem) : Type 0 where
    pub item : ExplainedItem
    pub alone : xs ≡ item ∷ []
    pub explained : IsExplainedReduction state lookahead p item

  -- an item that shifts is explained by its first examples
  pub record IsExplainedShift (state : StateIndex) (item : Dotted Bits) (x : ExplainedItem) : Type 0 where
    pub production : x.production.now ≡ item.production
    pub index : x.index ≡ item.index
    pub examples : AreShiftExamples g states most state item x.examples.items

  -- each item of a list that shifts the terminal is explained, in their order, and no other one
  pub data AreExplainedShifts (state : StateIndex) (t : TerminalString) : List (Dotted Bits) → List ExplainedItem → Type 0 where
    no_item : AreExplainedShifts state t [] []
    shifting : {item : Dotted Bits} {items : List (Dotted Bits)} {x : ExplainedItem} {xs : List ExplainedItem} → slice_get item.production.symbols item.index ≡ Some (Terminal t) → IsExplainedShift state item x → AreExplainedShifts state t items xs → AreExplainedShifts state t (item ∷ items) (x ∷ xs)
    other : {item : Dotted Bits} {items : List (Dotted Bits)} {xs : List ExplainedItem} → slice_get item.production.symbols item.index ≢ Some (Terminal t) → AreExplainedShifts state t items xs → AreExplainedShifts state t (item ∷ items) xs

  -- an item of a state was put to the end of a list if it shifts the terminal, and else the list is
  -- the same
  pub data AddsIfShifting (state : StateIndex) (t : TerminalString) (item : Dotted Bits) (old new : List ExplainedItem) : Type 0 where
    added : slice_get item.production.symbols item.index ≡ Some (Terminal t) → (x : ExplainedItem) → IsExplainedShift state item x → new ≡ old ++ x ∷ [] → AddsIfShifting state t item old new
    same : slice_get item.production.symbols item.index ≢ Some (Terminal t) → new ≡ old → AddsIfShifting state t item old new

  -- an action of a conflict is explained: a shift by the items of the state that shift the
  -- terminal, and a reduction by its finished item alone
  abbrev pub AreExplainedBy : StateIndex → Bits → Action → List ExplainedItem → Type 0
  AreExplainedBy state lookahead (Shift t target) xs = AreExplainedShifts state t (items_at (slice_get states state.0)) xs
  AreExplainedBy state lookahead (Reduce p) xs = IsExplainedAlone state lookahead p.now xs

  -- a conflict is explained: its reduction and its other action
  pub record IsExplained (c : Conflict Bits) (x : ExplainedConflict) : Type 0 where
    pub conflict : x.conflict.now ≡ c
    pub reduction : IsExplainedReduction c.state c.lookahead c.production.now x.reduction
    pub others : AreExplainedBy c.state c.lookahead c.action x.others.items

  -- each of the conflicts is explained, in their order
  pub data AreExplained : List (Conflict Bits) → List ExplainedConflict → Type 0 where
    no_conflict : AreExplained [] []
    one_conflict : {c : Conflict Bits} {cs : List (Conflict Bits)} {x : ExplainedConflict} {xs : List ExplainedConflict} → IsExplained c x → AreExplained cs xs → AreExplained (c ∷ cs) (x ∷ xs)
