-- Copies of states (Pager 1977, "A practical general method for constructing LR(k) parsers").
use Rattle.std.specs.Prelude.{Bool, List, Some, false, length, map, slice_get, true, ℕ, ◌<◌, ◌≡◌}
use Rattle.std.specs.Borrow.{Bor}
use Rattle.lalrpop_base.specs.Words.{AreCoherent, Bits, number_in, retargeted_all}
use Rattle.lalrpop_states.specs.declared.lr1_core.state.State.{State}
use Rattle.lalrpop_states.specs.declared.lr1_core.state.StateIndex.{StateIndex}
use Rattle.lalrpop_grammar.specs.declared.repr.Production.{Production}
use Rattle.lalrpop_construction.specs.states.SamePlaces.{by}

-- the index of the state with a number
abbrev pub index : ℕ → StateIndex
index n = record { 0 = n }

-- ---- copies
-- the reductions are the same if `exact` is set, and otherwise they are by the same productions
abbrev pub AreReductionsOf : Bool → List (Bits × Bor Production) → List (Bits × Bor Production) → Type 0
AreReductionsOf true old new = new ≡ old
AreReductionsOf false old new = map by new ≡ map by old

-- state n is a copy of another state: it has the same items;
-- its shifts and gotos lead to copies of the states to which those of the other state lead;
-- its reductions are the same, or by the same productions if `exact` is not set
pub record IsCopyOf (exact : Bool) (original : ℕ → ℕ) (n : ℕ) (old new : State Bits) : Type 0 where
  pub numbered : new.index.0 ≡ n
  pub items : new.items.vec.items ≡ old.items.vec.items
  pub shifts : retargeted_all original new.shifts.entries ≡ old.shifts.entries
  pub gotos : retargeted_all original new.gotos.entries ≡ old.gotos.entries
  pub reductions : AreReductionsOf exact old.reductions.items new.reductions.items

-- each state is a copy of its original, which is one of the handed states;
-- the handed states are coherent, and each of them is its own original
pub record AreCopies (exact : Bool) (handed : List (State Bits)) (originals : List ℕ) (states : List (State Bits)) : Type 0 where
  pub coherent : AreCoherent handed
  pub counted : length originals ≡ length states
  pub own : (n : ℕ) → n < length handed → slice_get originals n ≡ Some n
  pub each : (n : ℕ) (state : State Bits) → slice_get states n ≡ Some state → (before : State Bits) × (slice_get handed (number_in originals n) ≡ Some before) × IsCopyOf exact (number_in originals) n before state
