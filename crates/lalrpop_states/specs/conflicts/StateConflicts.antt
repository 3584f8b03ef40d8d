-- The conflicts of a state, in the order in which they are listed.
use Rattle.std.specs.Prelude.{◌≡◌, ◌++◌, ◌<◌, ℕ, Bool, true, List, [], ◌∷◌, map, slice_get, Option, Some, None}
use Rattle.std.specs.List.{filter, flat_map, list_any}
use Rattle.std.specs.Borrow.{Bor}
use Rattle.lalrpop_collections.specs.lists.Bits.{Bits, has, rising, bits_of, no_bits, with_bit}
use Rattle.lalrpop_grammar.specs.grammars.TerminalPlaces.{place_in}
use Rattle.lalrpop_grammar.specs.declared.repr.Production.{Production}
use Rattle.lalrpop_grammar.specs.declared.repr.TerminalString.{TerminalString}
use Rattle.lalrpop_states.specs.declared.lr1_core.state.StateIndex.{StateIndex}
use Rattle.lalrpop_states.specs.declared.lr1_core.state.State.{State}
use Rattle.lalrpop_states.specs.declared.lr1_core.state.Conflict.{Conflict}
use Rattle.lalrpop_states.specs.declared.lr1_core.state.Action.TheVariants.{Shift, Reduce}

-- a reduction: the bits of its tokens, and its production
abbrev pub StateReduction : Type 0
StateReduction = Bits × Bor Production

-- the bits that are in both sets
abbrev pub meet : Bits → Bits → Bits
meet s t = bits_of (filter (λ b. has t b) (rising s))

-- whether some bit is in both sets
abbrev pub share : Bits → Bits → Bool
share s t = list_any (λ b. has t b) (rising s)

-- the conflict of a reduction with the shift of a terminal, on that terminal
abbrev pub shift_conflict : StateIndex → TerminalString → StateIndex → ℕ → StateReduction → Conflict Bits
shift_conflict state t target bit r = record { state = state; lookahead = with_bit no_bits bit; production = r.1; action = Shift t target }

-- the conflicts of the shift of the terminal with the bit, and each reduction that holds the bit
abbrev pub conflicts_on_bit : StateIndex → TerminalString → StateIndex → List StateReduction → ℕ → List (Conflict Bits)
conflicts_on_bit state t target reductions bit = map (shift_conflict state t target bit) (filter (λ r. has r.0 bit) reductions)

-- the conflicts of the shift of a terminal with each reduction that holds its bit;
-- there is none if the terminal has no bit
abbrev pub conflicts_on_place : StateIndex → TerminalString → StateIndex → List StateReduction → Option ℕ → List (Conflict Bits)
conflicts_on_place state t target reductions None = []
conflicts_on_place state t target reductions (Some bit) = conflicts_on_bit state t target reductions bit

-- the conflicts of one shift with each reduction that holds its terminal
abbrev pub shift_conflicts : List TerminalString → StateIndex → List StateReduction → TerminalString × StateIndex → List (Conflict Bits)
shift_conflicts terminals state reductions (t, target) = conflicts_on_place state t target reductions (place_in terminals t)

-- the conflict of two reductions, on all tokens that they share
abbrev pub reduce_conflict : StateIndex → StateReduction → StateReduction → Conflict Bits
reduce_conflict state r s = record { state = state; lookahead = meet r.0 s.0; production = r.1; action = Reduce s.1 }

-- the conflicts of a reduction with each later one that shares a token with it
abbrev pub later_conflicts : StateIndex → StateReduction → List StateReduction → List (Conflict Bits)
later_conflicts state r later = map (reduce_conflict state r) (filter (λ s. share r.0 s.0) later)

-- the conflicts of each reduction with each later one that shares a token with it
abbrev pub reduce_conflicts : StateIndex → List StateReduction → List (Conflict Bits)
reduce_conflicts state [] = []
reduce_conflicts state (r ∷ later) = later_conflicts state r later ++ reduce_conflicts state later

-- the conflicts of a state: first those of each shift, by rising terminal, with each reduction that
-- holds its terminal, and then those of each two reductions that share a token
abbrev pub state_conflicts : List TerminalString → State Bits → List (Conflict Bits)
state_conflicts terminals state = flat_map (shift_conflicts terminals state.index state.reductions.items) state.shifts.entries ++ reduce_conflicts state.index state.reductions.items

-- no reduction holds the bit of a terminal that is shifted, and no two reductions share a token
pub record IsConflictFree (terminals : List TerminalString) (state : State Bits) : Type 0 where
  pub shifts : (k j bit : ℕ) (t : TerminalString) (target : StateIndex) (r : StateReduction) → slice_get state.shifts.entries k ≡ Some (t, target) → place_in terminals t ≡ Some bit →
      slice_get state.reductions.items j ≡ Some r → has r.0 bit ≡ true → ⊥
  pub reductions : (i j bit : ℕ) (r s : StateReduction) → i < j → slice_get state.reductions.items i ≡ Some r → slice_get state.reductions.items j ≡ Some s → has r.0 bit ≡ true → has s.0 bit ≡ true → ⊥
