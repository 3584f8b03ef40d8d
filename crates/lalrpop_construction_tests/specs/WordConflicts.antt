-- The conflicts of a state with words as lookaheads, in their order.
use Rattle.std.specs.Prelude.{ℕ, ◌^◌, ◌==◌, not, bit_and, List, [], ◌∷◌, ◌++◌, map, filter, Option, Some, None}
use Rattle.std.specs.List.{flat_map}
use Rattle.std.specs.Borrow.{Bor}
use Rattle.lalrpop_base.specs.Words.{place_in}
use Rattle.lalrpop_grammar.specs.declared.repr.Production.{Production}
use Rattle.lalrpop_grammar.specs.declared.repr.TerminalString.{TerminalString}
use Rattle.lalrpop_states.specs.declared.lr1_core.state.StateIndex.{StateIndex}
use Rattle.lalrpop_states.specs.declared.lr1_core.state.State.{State}
use Rattle.lalrpop_states.specs.declared.lr1_core.state.Conflict.{Conflict}
use Rattle.lalrpop_states.specs.declared.lr1_core.state.Action.TheVariants.{Shift, Reduce}
use Rattle.lalrpop_construction_tests.specs.declared.word_lookahead.Word.{Word}
use Rattle.lalrpop_construction_tests.specs.Words.{holds_bit}

-- a reduction: its word of tokens, and its production
abbrev pub WordReduction : Type 0
WordReduction = Word × Bor Production

-- the conflict of the shift of a terminal with a reduction, on that terminal
abbrev pub word_shift_conflict : StateIndex → TerminalString → StateIndex → ℕ → WordReduction → Conflict Word
word_shift_conflict state t target bit r = record { state = state; lookahead = record { bits = 2 ^ bit }; production = r.1; action = Shift t target }

-- the conflicts of the shift of the terminal with a bit, with each reduction that holds the bit
abbrev pub word_conflicts_on_bit : StateIndex → TerminalString → StateIndex → List WordReduction → ℕ → List (Conflict Word)
word_conflicts_on_bit state t target reductions bit = map (word_shift_conflict state t target bit) (filter (λ r. holds_bit r.0.bits bit) reductions)

-- the conflicts of the shift of a terminal; a terminal without a bit has none
abbrev pub word_conflicts_on_place : StateIndex → TerminalString → StateIndex → List WordReduction → Option ℕ → List (Conflict Word)
word_conflicts_on_place state t target reductions None = []
word_conflicts_on_place state t target reductions (Some bit) = word_conflicts_on_bit state t target reductions bit

-- the conflicts of a shift of a state
abbrev pub word_shift_conflicts : List TerminalString → StateIndex → List WordReduction → TerminalString × StateIndex → List (Conflict Word)
word_shift_conflicts terminals state reductions e = word_conflicts_on_place state e.0 e.1 reductions (place_in terminals e.0)

-- the conflict of two reductions, on all bits that they share
abbrev pub word_reduce_conflict : StateIndex → WordReduction → WordReduction → Conflict Word
word_reduce_conflict state r s = record { state = state; lookahead = record { bits = bit_and r.0.bits s.0.bits }; production = r.1; action = Reduce s.1 }

-- the conflicts of a reduction with each later one that shares a bit with it
abbrev pub word_later_conflicts : StateIndex → WordReduction → List WordReduction → List (Conflict Word)
word_later_conflicts state r later = map (word_reduce_conflict state r) (filter (λ s. not (bit_and r.0.bits s.0.bits == 0)) later)

-- the conflicts of each reduction with each later one
abbrev pub word_reduce_conflicts : StateIndex → List WordReduction → List (Conflict Word)
word_reduce_conflicts state [] = []
word_reduce_conflicts state (r ∷ later) = word_later_conflicts state r later ++ word_reduce_conflicts state later

-- the conflicts of each shift, by ascending terminals, with each reduction that holds its bit, and
-- then those of each two reductions that share a bit
abbrev pub word_conflicts : List TerminalString → State Word → List (Conflict Word)
word_conflicts terminals state = flat_map (word_shift_conflicts terminals state.index state.reductions.items) state.shifts.entries ++ word_reduce_conflicts state.index state.reductions.items
