-- States of which one has a conflict, before all states are made.
use Rattle.std.specs.Prelude.{List, map}
use Rattle.lalrpop_base.specs.Words.{AreAllConflictFree, Begins, Bits, Dotted, IsNullable, Kernels, item_at_start}
use Rattle.lalrpop_construction.specs.construction.Building.{AreMadeSoFar}
use Rattle.lalrpop_construction.specs.construction.EarlyStop.{ArePartlyBuilt}
use Rattle.lalrpop_construction.specs.construction.Results.{Construction}
use Rattle.lalrpop_numbers.specs.declared.numbers.numbered.Numbered.{Numbered}
use Rattle.lalrpop_states.specs.closures.Closure.{itself}
use Rattle.lalrpop_states.specs.declared.lookahead.nil.Nil.{Nil}
use Rattle.lalrpop_states.specs.declared.lr1_core.state.State.{State}

-- canonical states are made so far from kernels. Symbols let tokens pass if they are nullable
abbrev pub AreCanonicalSoFar : Construction Bits → List (Dotted Nil) → Kernels (List (Numbered Bits)) → List (State Bits) → Type 0
AreCanonicalSoFar c known kernels states = AreMadeSoFar itself Begins (λ g rest. IsNullable g.productions rest) c known kernels states

-- the construction makes some states, and one of them has a conflict
pub record HasConflict (c : Construction Bits) : Type 0 where
  pub states : List (State Bits)
  pub partly : ArePartlyBuilt c.rules (map (item_at_start c.lookahead) c.first) states
  pub conflict : ¬ AreAllConflictFree c.rules.terminals states
