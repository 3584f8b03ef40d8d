-- The states that a construction has made so far, with kernels of packed items.
use Rattle.std.specs.Prelude.{◌≡◌, ◌++◌, ◌∷◌, [], ℕ, List, length}
use Rattle.lalrpop_base.specs.Words.{Begins, Bits, Kernels, state_conflicts}
use Rattle.lalrpop_construction.specs.Words.{AreMadeSoFar, Construction}
use Rattle.lalrpop_grammar.specs.declared.repr.TerminalString.{TerminalString}
use Rattle.lalrpop_numbers.specs.declared.numbers.Numbers.{Numbers}
use Rattle.lalrpop_states.specs.closures.Closure.{itself}
use Rattle.lalrpop_states.specs.declared.lr1_core.state.State.{State}
use Rattle.canonical_by_number.specs.Closures.{LetsPass}
use Rattle.canonical_by_number.specs.Conflicts.{conflicts_of}
use Rattle.canonical_by_number.specs.Kernels.{kernels_in}

-- the states are built so far from the kernels, whose items are packed
abbrev pub AreMadeIn : Construction Bits → Numbers → List Bits → Kernels (List ℕ) → List (State Bits) → Type 0
AreMadeIn c n sets kernels states = AreMadeSoFar itself Begins LetsPass c n.items.items (kernels_in sets kernels) states

-- the conflicts of the state are as many as those of the shifts and of the finished items
abbrev pub IsCountedBy : Numbers → List Bits → List (ℕ × ℕ) → List (ℕ × ℕ) → State Bits → Type 0
IsCountedBy n sets finished edges state = (terminals : List TerminalString) → length (state_conflicts terminals state) ≡ conflicts_of n sets terminals finished edges

-- one state more is made, and its conflicts are counted by its shifts and its finished items
pub record IsStateMore (c : Construction Bits) (n : Numbers) (sets : List Bits) (kernels : Kernels (List ℕ)) (states : List (State Bits)) (finished edges : List (ℕ × ℕ)) : Type 0 where
  pub state : State Bits
  pub made : AreMadeIn c n sets kernels (states ++ state ∷ [])
  pub counted : IsCountedBy n sets finished edges state
