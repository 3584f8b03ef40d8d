-- The states that a construction has made so far.
-- Source: the sets-of-items construction of Aho, Sethi and Ullman, section 4.7.
use Rattle.std.specs.Prelude.{◌≡◌, ◌<◌, ◌≤◌, ℕ, List, length, map, slice_get, Some, Contains}
use Rattle.lalrpop_states.specs.closures.Closure.{AreItemsBy, IsClosureBy}
use Rattle.lalrpop_grammar.specs.grammars.WellFormed.{Rules}
use Rattle.lalrpop_collections.specs.lists.Bits.{Bits}
use Rattle.lalrpop_collections.specs.lists.Places.{AllDiffer}
use Rattle.lalrpop_states.specs.states.Items.{Dotted}
use Rattle.lalrpop_collections.specs.states.Kernels.{Kernels}
use Rattle.lalrpop_states.specs.declared.lookahead.nil.Nil.{Nil}
use Rattle.lalrpop_grammar.specs.declared.lookahead.token.Token.{Token}
use Rattle.lalrpop_states.specs.declared.lr1_core.state.State.{State}
use Rattle.lalrpop_grammar.specs.declared.repr.Symbol.{Symbol}
use Rattle.lalrpop_construction.specs.construction.Results.{Construction}
use Rattle.lalrpop_numbers.specs.numbers.Numbers.{AreAllNumbered, kernels_by}
use Rattle.lr1_theory.specs.construction.States.{IsBuiltOfBy, IsLedTo, item_at_start}
use Rattle.lalrpop_numbers.specs.declared.numbers.numbered.Numbered.{Numbered}

-- there is a state for each kernel that was handed out, and all kernels are of the grammar;
-- a transition leads to each kernel but the first one
pub record Building {L : Type 0} (meaning : L → Bits) (C : List (Dotted L) → List (Dotted L) → Type 0) (g : Rules) (first : List (Dotted L)) (kernels : Kernels (List (Dotted L))) (states : List (State L)) : Type 0 where
  pub handed : kernels.handed ≡ length states
  pub fewer : kernels.handed ≤ length kernels.list
  pub differ : AllDiffer kernels.list
  pub of : (k : List (Dotted L)) → Contains kernels.list k → AreItemsBy meaning g k
  pub start : slice_get kernels.list 0 ≡ Some first
  pub each : (n : ℕ) (state : State L) → slice_get states n ≡ Some state → IsBuiltOfBy C kernels.list n state
  pub led : (n : ℕ) → 0 < n → n < length kernels.list → IsLedTo states n

-- the states are built so far from the kernels, which are given by number;
-- the first kernel is that of the productions of the start symbol
pub record AreMadeSoFar {L : Type 0} (meaning : L → Bits) (begins : Rules → List Symbol → Token → Type 0) (passes : Rules → List Symbol → Type 0) (c : Construction L) (known : List (Dotted Nil)) (kernels : Kernels (List (Numbered L))) (states : List (State L)) : Type 0 where
  pub building : Building meaning (IsClosureBy meaning begins passes c.rules) c.rules (map (item_at_start c.lookahead) c.first) (kernels_by known kernels) states
  pub numbered : AreAllNumbered known kernels.list
