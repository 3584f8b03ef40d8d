-- The conflicts of states whose items are given with numbers of sets.
use Rattle.std.specs.Prelude.{◌≡◌, ◌+◌, ℕ, Bool, List, [], ◌∷◌, map, length, slice_get, Option, Some, None}
use Rattle.std.specs.List.{flat_map}
use Rattle.lalrpop_base.specs.Words.{Bits, has, state_conflicts}
use Rattle.lalrpop_construction.specs.canonical.CanonicalAnswers.{up_to_greatest}
use Rattle.lalrpop_construction.specs.construction.Results.{AreStatesOf, Construction}
use Rattle.lalrpop_grammar.specs.declared.repr.TerminalString.{TerminalString}
use Rattle.lalrpop_numbers.specs.declared.numbers.Numbers.{Numbers}
use Rattle.lalrpop_numbers.specs.numbers.Numbers.{dotted_at}
use Rattle.lalrpop_states.specs.conflicts.ConflictCounts.{reduce_conflict_count, shift_conflict_count}
use Rattle.lalrpop_states.specs.conflicts.StateConflicts.{StateReduction, share}
use Rattle.lalrpop_states.specs.declared.lr1_core.state.State.{State}
use Rattle.canonical_by_number.specs.Edges.{shifts_in}
use Rattle.canonical_by_number.specs.TokenSets.{set_at}

-- ---- the finished items
-- a list with the item and its set if the item is finished, that is, if no symbol is after its dot
abbrev pub finished_if : Option (Option ℕ) → ℕ × ℕ → List (ℕ × ℕ)
finished_if None e = []
finished_if (Some None) e = e ∷ []
finished_if (Some (Some x)) e = []

-- a list with the item if it is finished, and otherwise an empty list
abbrev pub finished_entry : Numbers → ℕ × ℕ → List (ℕ × ℕ)
finished_entry n e = finished_if (slice_get n.behind.items e.0) e

-- the finished items among items, in their order
abbrev pub finished_entries : Numbers → List (ℕ × ℕ) → List (ℕ × ℕ)
finished_entries n list = flat_map (finished_entry n) list

-- ---- reductions
-- the reduction of a finished item: its set and its production
abbrev pub reduction_in : Numbers → List Bits → ℕ × ℕ → StateReduction
reduction_in n sets e = (set_at sets e.1, record { ref_ptr = (0, 0); now = (dotted_at n.items.items e.0).production })

-- the reductions of finished items
abbrev pub reductions_in : Numbers → List Bits → List (ℕ × ℕ) → List StateReduction
reductions_in n sets finished = map (reduction_in n sets) finished

-- whether the set of the item has the bit
abbrev pub holds_in : List Bits → ℕ → ℕ × ℕ → Bool
holds_in sets bit e = has (set_at sets e.1) bit

-- whether the set of the item shares a token with the set
abbrev pub shares_in : List Bits → ℕ → ℕ × ℕ → Bool
shares_in sets tokens e = share (set_at sets tokens) (set_at sets e.1)

-- ---- one state
-- how many conflicts are of a shift and a reduction
abbrev pub shift_conflicts_of : Numbers → List Bits → List TerminalString → List (ℕ × ℕ) → List (ℕ × ℕ) → ℕ
shift_conflicts_of n sets terminals finished edges = shift_conflict_count terminals (reductions_in n sets finished) (shifts_in n.symbols.items edges)

-- how many conflicts are of two reductions
abbrev pub reduce_conflicts_of : Numbers → List Bits → List (ℕ × ℕ) → ℕ
reduce_conflicts_of n sets finished = reduce_conflict_count (reductions_in n sets finished)

-- how many conflicts a state has, by its finished items and its edges
abbrev pub conflicts_of : Numbers → List Bits → List TerminalString → List (ℕ × ℕ) → List (ℕ × ℕ) → ℕ
conflicts_of n sets terminals finished edges = shift_conflicts_of n sets terminals finished edges + reduce_conflicts_of n sets finished

-- the new count has so many more conflicts than the old one, up to the greatest number of 64 bits
abbrev pub CountsMore : ℕ → ℕ → ℕ → Type 0
CountsMore more old new = (n : ℕ) → old ≡ up_to_greatest n → new ≡ up_to_greatest (n + more)

-- ---- all states
-- the number of the conflicts of states, up to the greatest number of 64 bits
abbrev pub conflict_total : List TerminalString → List (State Bits) → ℕ
conflict_total terminals states = up_to_greatest (length (flat_map (state_conflicts terminals) states))

-- the number is that of the conflicts of the states that the construction builds, or the greatest
-- number of 64 bits if they have more
pub record IsConflictTotal (c : Construction Bits) (count : ℕ) : Type 0 where
  pub states : List (State Bits)
  pub made : AreStatesOf c states
  pub counted : count ≡ conflict_total c.rules.terminals states
