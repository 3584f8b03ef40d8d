-- The token sets that the JSON of states and conflicts names by numbers.
use Rattle.std.specs.Prelude.{◌↔◌, ℕ, zero, suc, List, [], ◌∷◌, ◌++◌, length, if◌then◌else◌, Contains}
use Rattle.std.specs.Borrow.{Bor}
use Rattle.std.specs.List.{flat_map}
use Rattle.lalrpop_base.specs.Words.{AllDiffer, Bits, Dotted, no_bits, with_bit}
use Rattle.lalrpop_grammar.specs.declared.repr.Production.{Production}
use Rattle.lalrpop_grammar.specs.declared.repr.TerminalString.{TerminalString}
use Rattle.lalrpop_states.specs.declared.lr1_core.state.Conflict.{Conflict}
use Rattle.lalrpop_states.specs.declared.lr1_core.state.State.{State}
use Rattle.table_data.specs.Sets.{is_same}

-- the set of the bits below a number
abbrev pub bits_below : ℕ → Bits
bits_below zero = no_bits
bits_below (suc bit) = with_bit (bits_below bit) bit

-- the set of each terminal, and of the end of the input, whose bit comes after theirs
abbrev pub all_tokens : List TerminalString → Bits
all_tokens terminals = bits_below (suc (length terminals))

-- the set of an item, unless it is the set of all tokens
abbrev pub item_sets : Bits → Dotted Bits → List Bits
item_sets all item = if is_same item.lookahead all then [] else item.lookahead ∷ []

-- the set of a reduction
abbrev pub reduction_sets : Bits × Bor Production → List Bits
reduction_sets reduction = reduction.0 ∷ []

-- the sets of the items and the reductions of a state
abbrev pub state_sets : Bits → State Bits → List Bits
state_sets all state = flat_map (item_sets all) state.items.vec.items ++ flat_map reduction_sets state.reductions.items

-- the set of a conflict
abbrev pub conflict_sets : Conflict Bits → List Bits
conflict_sets conflict = conflict.lookahead ∷ []

-- the sets of the items and the reductions of states, and those of conflicts
abbrev pub named_sets : List TerminalString → List (State Bits) → List (Conflict Bits) → List Bits
named_sets terminals states conflicts = flat_map (state_sets (all_tokens terminals)) states ++ flat_map conflict_sets conflicts

-- the list has each set of another one, once, and no others
pub record HasEachOnce (named sets : List Bits) : Type 0 where
  pub differ : AllDiffer sets
  pub same : (set : Bits) → Contains sets set ↔ Contains named set
