-- Conflicts grouped by their causes. The canonical construction of Knuth, "On the Translation of
-- Languages from Left to Right", copies states, so that conflicts of copies have one cause.
use Rattle.std.specs.Prelude.{◌≡◌, ◌↔◌, ℕ, ◌<◌, List, length, slice_get, slice_index, Some, Contains}
use Rattle.lalrpop_collections.specs.lists.Bits.{Bits}
use Rattle.lalrpop_collections.specs.lists.Each.{EachItem, Ordered}
use Rattle.lalrpop_grammar.specs.declared.repr.Production.{Production}
use Rattle.lalrpop_grammar.specs.declared.repr.Symbol.TheVariants.{Terminal}
use Rattle.lalrpop_states.specs.collapse.Collapsible.{dots_at}
use Rattle.lalrpop_states.specs.declared.lr1_core.state.Action.{Action}
use Rattle.lalrpop_states.specs.declared.lr1_core.state.Action.TheVariants.{Shift, Reduce}
use Rattle.lalrpop_states.specs.declared.lr1_core.state.Conflict.{Conflict}
use Rattle.lalrpop_states.specs.declared.lr1_core.state.State.{State}
use Rattle.lalrpop_states.specs.declared.lr1_core.state.StateIndex.{StateIndex}

-- the states of the conflicts
module _ (states : List (State Bits)) where
  -- the dotted production is one of an action of a state. Those of a shift are listed by the state
  -- and have the terminal after their dot. That of a reduction has its dot at the end
  abbrev pub IsOfAction : StateIndex → Action → Production × ℕ → Type 0
  IsOfAction state (Shift t target) dotted = Contains (dots_at states state.0) dotted × (slice_get dotted.0.symbols dotted.1 ≡ Some (Terminal t))
  IsOfAction state (Reduce p) dotted = dotted ≡ (p.now, length p.now.symbols)

  -- two conflicts have one cause if they reduce by the same production, and their other actions have
  -- the same dotted productions. So a shift and a reduction never have one cause
  pub record IsSameCause (c d : Conflict Bits) : Type 0 where
    pub reduction : c.production.now ≡ d.production.now
    pub others : (dotted : Production × ℕ) → IsOfAction c.state c.action dotted ↔ IsOfAction d.state d.action dotted

-- the groups have the numbers of the elements of a list, so that two elements are in one group if
-- and only if they are the same in the given sense
pub record AreGroups {X : Type 0} (IsSame : X → X → Type 0) (xs : List X) (groups : List (List ℕ)) : Type 0 where
  -- each number is in a group
  pub each : (i : ℕ) → i < length xs → (n : ℕ) × (group : List ℕ) × (slice_get groups n ≡ Some group) × Contains group i
  -- no number is in two groups
  pub once : (m n i : ℕ) (a b : List ℕ) → slice_get groups m ≡ Some a → slice_get groups n ≡ Some b → Contains a i → Contains b i → m ≡ n
  -- there is no other number
  pub within : EachItem (λ group. (i : ℕ) → Contains group i → i < length xs) groups
  -- those of a group are the same, and no others are
  pub same : (m n i j : ℕ) (a b : List ℕ) (x y : X) → slice_get groups m ≡ Some a → slice_get groups n ≡ Some b → Contains a i → Contains b j → slice_get xs i ≡ Some x → slice_get xs j ≡ Some y → (m ≡ n) ↔ IsSame x y
  -- each group ascends, and has a number
  pub rising : EachItem (Ordered (λ (i j : ℕ). i < j)) groups
  pub some : EachItem (λ group. 0 < length group) groups
  -- the groups are in the order of their first numbers
  pub in_order : Ordered (λ a b. slice_index a 0 < slice_index b 0) groups

-- the lists of numbers are the causes of the conflicts
abbrev pub AreCauses : List (State Bits) → List (Conflict Bits) → List (List ℕ) → Type 0
AreCauses states conflicts causes = AreGroups (IsSameCause states) conflicts causes
