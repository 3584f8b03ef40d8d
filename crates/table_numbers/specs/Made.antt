-- States of the code that are made of states by number.
use Rattle.std.specs.Prelude.{◌≡◌, ℕ, List, [], ◌∷◌, ◌++◌, length, map, slice_get, Option, Some, option_map}
use Rattle.std.specs.Borrow.{Bor}
use Rattle.std.specs.BTreeMap.{BTreeMap, get, is_at}
use Rattle.std.specs.declared.cmp.Ordering.{Ordering}
use Rattle.lalrpop_base.specs.Words.{Bits, contents_of, holds_token, number_of}
use Rattle.lalrpop_grammar.specs.declared.repr.Production.{Production}
use Rattle.lalrpop_states.specs.declared.lr1_core.state.State.{State}
use Rattle.lalrpop_states.specs.declared.lr1_core.state.StateIndex.{StateIndex}
use Rattle.table_numbers.specs.Contents.{state_contents, target_at}
use Rattle.table_numbers.specs.Lists.{Lists}
use Rattle.table_numbers.specs.Numbers.{with_items}
use Rattle.table_numbers.specs.declared.tables.NumberedState.{NumberedState}

-- the productions behind references
abbrev pub borrowed : List (Bor Production) → List Production
borrowed ps = map (λ (p : Bor Production). p.now) ps

-- a map has, for each name, the target of the first pair with the name
abbrev pub HasTargets : {K : Type 0} → (K → K → Ordering) → BTreeMap K StateIndex → List (Option K × ℕ) → Type 0
HasTargets cmp m pairs = (q : _) → option_map number_of (get cmp m q) ≡ target_at (is_at (cmp q)) pairs

-- a map gets a target for one more pair
abbrev pub AddsTarget : {K : Type 0} → (K → K → Ordering) → BTreeMap K StateIndex → BTreeMap K StateIndex → K → ℕ → Type 0
AddsTarget {K} cmp old new name target = (pairs : List (Option K × ℕ)) → HasTargets cmp old pairs → HasTargets cmp new (pairs ++ (Some name, target) ∷ [])

-- a state has the contents of a state by number, but for its items
abbrev pub IsMade : Lists → List (List ℕ) → NumberedState → State Bits → Type 0
IsMade lists sets s state = state_contents lists sets s ≡ with_items [] (contents_of (holds_token lists.terminals) state)

-- so have all states, and there are as many
pub record AreMade (lists : Lists) (sets : List (List ℕ)) (list : List NumberedState) (states : List (State Bits)) : Type 0 where
  pub counted : length states ≡ length list
  pub each : (n : ℕ) (state : State Bits) (s : NumberedState) → slice_get states n ≡ Some state → slice_get list n ≡ Some s → IsMade lists sets s state
