-- The edges of states, as pairs of the numbers of states.
use Rattle.std.specs.Prelude.{ℕ, ◌&&◌, nat_lt, List, [], ◌∷◌, ◌++◌, length, if◌then◌else◌}
use Rattle.std.specs.List.{flat_map}
use Rattle.lalrpop_base.specs.Words.{Bits}
use Rattle.lalrpop_states.specs.declared.lr1_core.state.State.{State}
use Rattle.lalrpop_states.specs.declared.lr1_core.state.StateIndex.{StateIndex}

-- the numbers of the states that an edge leaves and to which it leads, if both are below the limit
abbrev pub edge_pair : ℕ → ℕ → StateIndex → List (ℕ × ℕ)
edge_pair limit from target = if nat_lt from limit && nat_lt target.0 limit then (from, target.0) ∷ [] else []

-- the pairs of numbers of some edges that leave a state
abbrev pub target_pairs : {K : Type 0} → ℕ → ℕ → List (K × StateIndex) → List (ℕ × ℕ)
target_pairs {K} limit from targets = flat_map (λ (e : K × StateIndex). edge_pair limit from e.1) targets

-- the pairs of numbers of the shifts and of the gotos of a state
abbrev pub state_pairs : ℕ → State Bits → List (ℕ × ℕ)
state_pairs limit state = target_pairs limit state.index.0 state.shifts.entries ++ target_pairs limit state.index.0 state.gotos.entries

-- the pairs of numbers of the edges of states; the number of a state is its index in the list
abbrev pub edge_pairs : List (State Bits) → List (ℕ × ℕ)
edge_pairs states = flat_map (state_pairs (length states)) states
