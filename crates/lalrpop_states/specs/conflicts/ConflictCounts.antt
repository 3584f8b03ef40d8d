-- How many conflicts a state has: those of a shift and a reduction, and those of two reductions.
use Rattle.std.specs.Prelude.{◌+◌, ℕ, List, [], ◌∷◌, Option, Some, None, count_by}
use Rattle.lalrpop_collections.specs.lists.Bits.{has}
use Rattle.lalrpop_grammar.specs.grammars.TerminalPlaces.{place_in}
use Rattle.lalrpop_states.specs.conflicts.StateConflicts.{StateReduction, share}
use Rattle.lalrpop_grammar.specs.declared.repr.TerminalString.{TerminalString}
use Rattle.lalrpop_states.specs.declared.lr1_core.state.StateIndex.{StateIndex}

-- how many reductions hold a bit
abbrev pub count_on_bit : List StateReduction → ℕ → ℕ
count_on_bit reductions bit = count_by (λ (r : StateReduction). has r.0 bit) reductions

-- how many reductions hold the bit of a terminal: none if the terminal has no bit
abbrev pub count_on_place : List StateReduction → Option ℕ → ℕ
count_on_place reductions None = 0
count_on_place reductions (Some bit) = count_on_bit reductions bit

-- the sum, over the terminals that are shifted, of how many reductions hold the terminal
abbrev pub shift_conflict_count : List TerminalString → List StateReduction → List (TerminalString × StateIndex) → ℕ
shift_conflict_count terminals reductions [] = 0
shift_conflict_count terminals reductions (shift ∷ rest) = count_on_place reductions (place_in terminals shift.0) + shift_conflict_count terminals reductions rest

-- how many later reductions share a token with a reduction
abbrev pub later_count : StateReduction → List StateReduction → ℕ
later_count r later = count_by (λ (s : StateReduction). share r.0 s.0) later

-- the sum, over the reductions, of how many later ones share a token with the reduction
abbrev pub reduce_conflict_count : List StateReduction → ℕ
reduce_conflict_count [] = 0
reduce_conflict_count (r ∷ later) = later_count r later + reduce_conflict_count later
