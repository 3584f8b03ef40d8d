-- States of the code beside states by number.
use Rattle.std.specs.Prelude.{◌≡◌, ℕ, List, length, map, slice_get, Option, Some}
use Rattle.std.specs.Borrow.{Bor}
use Rattle.lalrpop_base.specs.Words.{Bits, number_of}
use Rattle.lalrpop_grammar.specs.declared.repr.Production.{Production}
use Rattle.lalrpop_states.specs.declared.lr1_core.state.State.{State}
use Rattle.lalrpop_states.specs.declared.lr1_core.state.StateIndex.{StateIndex}
use Rattle.table_numbers.specs.Lists.{Lists, named}
use Rattle.table_numbers.specs.declared.tables.NumberedState.{NumberedState}

-- an entry of the shifts or gotos of a state, as a pair with a name
abbrev pub named_target : {A : Type 0} → A × StateIndex → Option A × ℕ
named_target e = (Some e.0, number_of e.1)

-- the production and the set at the numbers of a reduction
abbrev pub reduction_at : List Production → List Bits → ℕ × ℕ → Option Production × Option Bits
reduction_at productions sets r = (slice_get productions r.0, slice_get sets r.1)

-- the production and the set of a reduction of the code
abbrev pub reduction_parts : Bits × Bor Production → Option Production × Option Bits
reduction_parts r = (Some r.1.now, Some r.0)

-- a state by number is that of a state of the code
pub record IsNumbered (lists : Lists) (sets : List Bits) (state : State Bits) (s : NumberedState) : Type 0 where
  pub shifts : named lists.terminals s.shifts ≡ map named_target state.shifts.entries
  pub gotos : named lists.nonterminals s.gotos ≡ map named_target state.gotos.entries
  pub reductions : map (reduction_at lists.productions sets) s.reductions ≡ map reduction_parts state.reductions.items

-- each state by number is that of the state of the code at its place
abbrev pub EachIsNumbered : Lists → List Bits → List (State Bits) → List NumberedState → Type 0
EachIsNumbered lists sets states list =
    (n : ℕ) (state : State Bits) (s : NumberedState) → slice_get states n ≡ Some state → slice_get list n ≡ Some s → IsNumbered lists sets state s

-- so are all states, and there are as many
pub record AreNumbered (lists : Lists) (sets : List Bits) (states : List (State Bits)) (list : List NumberedState) : Type 0 where
  pub counted : length list ≡ length states
  pub each : EachIsNumbered lists sets states list

-- a list keeps what another has at its numbers
abbrev pub Keeps : {A : Type 0} → List A → List A → Type 0
Keeps old new = (n : ℕ) (x : _) → slice_get old n ≡ Some x → slice_get new n ≡ Some x
