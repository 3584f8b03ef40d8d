-- The states that a construction makes from kernels.
use Rattle.std.specs.Prelude.{◌≡◌, ℕ, ◌<◌, ◌≤◌, ◌++◌, List, map, length, slice_get, Some, Contains}
use Rattle.std.specs.BTreeMap.{IsOrdered}
use Rattle.lalrpop_grammar.specs.grammars.WellFormed.{Rules}
use Rattle.lalrpop_collections.specs.lists.Bits.{Bits}
use Rattle.lalrpop_collections.specs.lists.Places.{AllDiffer}
use Rattle.lalrpop_states.specs.states.Items.{Dotted}
use Rattle.lalrpop_collections.specs.states.Kernels.{Kernels}
use Rattle.lalrpop_states.specs.declared.lr1_core.state.State.{State}
use Rattle.lalrpop_grammar.specs.declared.repr.Production.{Production}
use Rattle.lalrpop_states.specs.declared.lr1_core.state.StateIndex.{StateIndex}
use Rattle.lalrpop_grammar.specs.declared.repr.Symbol.{Symbol}
use Rattle.lalrpop_grammar.specs.contracts.repr.TerminalStringOrd.TheImpl as terminal_ord
use Rattle.lalrpop_states.specs.closures.Closure.{AreItemsBy, IsClosureOf}
use Rattle.lalrpop_states.specs.construction.Transitions.{Entries, HasEntry, IsBehind, IsBehindOne, Shifts, reductions_of, seen_reduction}

-- the item with a production, the dot at the start, and a lookahead
abbrev pub item_at_start : {L : Type 0} → L → Production → Dotted L
item_at_start lookahead p = record { production = p; index = 0; lookahead = lookahead }

-- the entries of the shifts and gotos of a state
abbrev pub state_entries : {L : Type 0} → State L → Entries
state_entries state = record { shifts = state.shifts.entries; gotos = state.gotos.entries }

-- the state has a transition over the symbol to the target
abbrev pub HasTransition : {L : Type 0} → Symbol → StateIndex → State L → Type 0
HasTransition x target state = HasEntry (state_entries state) x target

-- the symbol is after a dot of the items, and the target is the number of the kernel that it gives
pub record ItemsLeadTo {L : Type 0} (items : List (Dotted L)) (list : List (List (Dotted L))) (x : Symbol) (target : StateIndex) : Type 0 where
  pub kernel : List (Dotted L)
  pub behind : IsBehindOne x items
  pub shifts : Shifts x items kernel
  pub numbered : slice_get list target.0 ≡ Some kernel

-- the state has the number, and its items are the closure of the kernel;
-- it has a transition over each symbol after a dot, to the number of the kernel of that symbol;
-- its shifts ascend, and its reductions are its finished items, in order;
-- which items are a closure is a parameter, so that the definition applies to any lookahead
pub record IsBuiltBy {L : Type 0} (Closes : List (Dotted L) → List (Dotted L) → Type 0) (list : List (List (Dotted L))) (kernel : List (Dotted L)) (number : ℕ) (state : State L) : Type 0 where
  pub index : state.index.0 ≡ number
  pub closure : Closes kernel state.items.vec.items
  pub leads : (x : Symbol) (target : StateIndex) → HasTransition x target state → ItemsLeadTo state.items.vec.items list x target
  pub all : (x : Symbol) (i : Dotted L) → Contains state.items.vec.items i → IsBehind x i → (target : StateIndex) × HasTransition x target state
  pub ascend : IsOrdered terminal_ord.ghosts.cmp state.shifts
  pub finished : map seen_reduction state.reductions.items ≡ reductions_of state.items.vec.items

-- the state is built from the kernel with the number
pub record IsBuiltOfBy {L : Type 0} (Closes : List (Dotted L) → List (Dotted L) → Type 0) (list : List (List (Dotted L))) (number : ℕ) (state : State L) : Type 0 where
  pub kernel : List (Dotted L)
  pub numbered : slice_get list number ≡ Some kernel
  pub built : IsBuiltBy Closes list kernel number state

-- the new kernels are the old ones, and after them kernels of the grammar
pub record Extends {L : Type 0} (meaning : L → Bits) (g : Rules) (old new : Kernels (List (Dotted L))) : Type 0 where
  pub added : List (List (Dotted L))
  pub stay : new.list ≡ old.list ++ added
  pub of : (kernel : List (Dotted L)) → Contains added kernel → AreItemsBy meaning g kernel
  pub handed : new.handed ≡ old.handed
  pub differ : AllDiffer old.list → AllDiffer new.list

-- a transition of the state leads to the number of each kernel that was added
abbrev pub LeadsToAdded : {L : Type 0} → Kernels (List (Dotted L)) → Kernels (List (Dotted L)) → State L → Type 0
LeadsToAdded old new state = AllDiffer old.list → (n : ℕ) → length old.list ≤ n → n < length new.list → (x : Symbol) × (target : StateIndex) × HasTransition x target state × (target.0 ≡ n)

-- a transition of an earlier state leads to the state with the number
pub record IsLedTo {L : Type 0} (states : List (State L)) (n : ℕ) : Type 0 where
  pub place : ℕ
  pub earlier : place < n
  pub state : State L
  pub there : slice_get states place ≡ Some state
  pub symbol : Symbol
  pub target : StateIndex
  pub transition : HasTransition symbol target state
  pub leads : target.0 ≡ n

-- there are distinct kernels, of which the first is the given one, and a state is built from each;
-- a transition of an earlier state leads to each state but the first
pub record AreBuiltBy {L : Type 0} (Closes : List (Dotted L) → List (Dotted L) → Type 0) (first : List (Dotted L)) (states : List (State L)) : Type 0 where
  pub kernels : List (List (Dotted L))
  pub counted : length kernels ≡ length states
  pub differ : AllDiffer kernels
  pub start : slice_get kernels 0 ≡ Some first
  pub each : (n : ℕ) (state : State L) → slice_get states n ≡ Some state → IsBuiltOfBy Closes kernels n state
  pub led : (n : ℕ) → 0 < n → n < length states → IsLedTo states n

-- the state is built from the kernel, with sets of tokens
abbrev pub IsBuilt : Rules → List (List (Dotted Bits)) → List (Dotted Bits) → ℕ → State Bits → Type 0
IsBuilt g = IsBuiltBy (IsClosureOf g)
