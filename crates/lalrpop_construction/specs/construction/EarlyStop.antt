-- The states that a construction makes if it stops early. Some states may be left out.
use Rattle.std.specs.Prelude.{◌⊎◌, ◌-◌, take, ◌≡◌, ◌≢◌, [], ◌↔◌, ◌<◌, ◌≤◌, ℕ, List, length, map, slice_get, Some, Contains}
use Rattle.std.specs.List.{flat_map}
use Rattle.lalrpop_states.specs.conflicts.Failures.{IfConflicts}
use Rattle.lalrpop_states.specs.conflicts.NilConflicts.{nil_conflicts}
use Rattle.lalrpop_states.specs.conflicts.StateConflicts.{state_conflicts}
use Rattle.lalrpop_grammar.specs.grammars.WellFormed.{Rules}
use Rattle.lalrpop_collections.specs.lists.Bits.{Bits, no_bits}
use Rattle.lalrpop_collections.specs.lists.Places.{AllDiffer}
use Rattle.lalrpop_grammar.specs.parsing.Validity.{IsLive, Valid, ValidToken}
use Rattle.lalrpop_states.specs.states.Items.{Dotted, dotted_of}
use Rattle.lalrpop_states.specs.declared.lookahead.nil.Nil.{Nil}
use Rattle.lalrpop_grammar.specs.declared.lookahead.token.Token.{Token}
use Rattle.lalrpop_states.specs.declared.lr1_core.state.BuildError.{BuildError}
use Rattle.lalrpop_states.specs.declared.lr1_core.state.Conflict.{Conflict}
use Rattle.lalrpop_states.specs.declared.lr1_core.state.State.{State}
use Rattle.lalrpop_grammar.specs.declared.repr.NonterminalString.{NonterminalString}
use Rattle.lalrpop_grammar.specs.declared.repr.Production.{Production}
use Rattle.lalrpop_grammar.specs.declared.repr.Symbol.{Symbol}
use Rattle.lalrpop_grammar.specs.declared.repr.TerminalString.{TerminalString}
use Rattle.lalrpop_construction.specs.states.Canonical.{AreCanonicalStates}
use Rattle.lalrpop_states.specs.closures.Closure.{HasItemToken, IsClosureOf, IsClosureBy}
use Rattle.lalrpop_construction.specs.states.Lr0.{AreLr0States}
use Rattle.lalrpop_states.specs.conflicts.AllConflicts.{AreAllConflicts, ListsAll}
use Rattle.lalrpop_construction.specs.construction.Results.{Settings}
use Rattle.lr1_theory.specs.construction.States.{item_at_start, IsBuiltOfBy, IsLedTo, AreBuiltBy}

-- there is a state for each of the first kernels, and kernels after them may have none;
-- which items are a closure is a parameter, so that the definition applies to any lookahead
pub record ArePartlyBuiltBy {L : Type 0} (Closes : List (Dotted L) → List (Dotted L) → Type 0) (first : List (Dotted L)) (states : List (State L)) : Type 0 where
  pub kernels : List (List (Dotted L))
  pub fewer : length states ≤ length kernels
  pub differ : AllDiffer kernels
  pub start : slice_get kernels 0 ≡ Some first
  pub each : (n : ℕ) (state : State L) → slice_get states n ≡ Some state → IsBuiltOfBy Closes kernels n state
  pub led : (n : ℕ) → 0 < n → n < length states → IsLedTo states n

-- there is a state, with sets of tokens, for each of the first kernels
abbrev pub ArePartlyBuilt : Rules → List (Dotted Bits) → List (State Bits) → Type 0
ArePartlyBuilt g = ArePartlyBuiltBy (IsClosureOf g)

-- the dotted production is among the items of the state
abbrev pub HasDotted : {L : Type 0} → State L → Production → ℕ → Type 0
HasDotted state p dot = Contains (map dotted_of state.items.vec.items) (p, dot)

-- the state is that of the live prefix: it has exactly the valid dotted productions, with exactly
-- their valid tokens
pub record IsStateFor (g : Rules) (start : NonterminalString) (u : List Symbol) (state : State Bits) : Type 0 where
  pub live : IsLive g.productions start u
  pub items : (p : Production) (dot : ℕ) → HasDotted state p dot ↔ Valid g.productions start u p dot
  pub tokens : (p : Production) (dot : ℕ) (t : Token) → HasItemToken g.terminals state.items.vec.items p dot t ↔ ValidToken g.productions start u p dot t

-- the states have the same dotted productions with the same tokens
pub record HaveSameContents (terminals : List TerminalString) (a b : State Bits) : Type 0 where
  pub items : (p : Production) (dot : ℕ) → HasDotted a p dot ↔ HasDotted b p dot
  pub tokens : (p : Production) (dot : ℕ) (t : Token) → HasItemToken terminals a.items.vec.items p dot t ↔ HasItemToken terminals b.items.vec.items p dot t

-- the first state is that of the empty prefix, each is that of a live prefix, and no two have the
-- same dotted productions with the same tokens
pub record AreSomeCanonicalStates (g : Rules) (start : NonterminalString) (states : List (State Bits)) : Type 0 where
  pub first : (state : State Bits) → slice_get states 0 ≡ Some state → IsStateFor g start [] state
  pub each : (n : ℕ) (state : State Bits) → slice_get states n ≡ Some state → (u : List Symbol) × IsStateFor g start u state
  pub differ : (n m : ℕ) (a b : State Bits) → n < m → slice_get states n ≡ Some a → slice_get states m ≡ Some b → ¬ HaveSameContents g.terminals a b

-- the number of conflicts found is enough to stop; if the limit is 0, no number is enough
abbrev pub AreEnough : ℕ → ℕ → Type 0
AreEnough stop_after found = (0 < stop_after) × (stop_after ≤ found)

-- the states before the last one have too few conflicts to stop
abbrev pub GoesOnBeforeLast : List TerminalString → ℕ → List (State Bits) → Type 0
GoesOnBeforeLast terminals stop_after states = 0 < stop_after → length (flat_map (state_conflicts terminals) (take (length states - 1) states)) < stop_after

-- the number of conflicts that are listed for the states is less than the limit
pub record ListFewer {L : Type 0} (lists : State L → List TerminalString → List (Conflict L) → Type 0) (terminals : List TerminalString) (states : List (State L)) (stop_after : ℕ) : Type 0 where
  pub listed : List (Conflict L)
  pub all : ListsAll lists terminals states listed
  pub fewer : length listed < stop_after

-- the construction makes the states, and lists the conflicts, until there are enough to stop;
-- which items are a closure, and which conflicts are listed, are parameters
pub record AreMadeUntilBy {L : Type 0} (Closes : List (Dotted L) → List (Dotted L) → Type 0) (lists : State L → List TerminalString → List (Conflict L) → Type 0) (terminals : List TerminalString) (first : List (Dotted L)) (stop_after : ℕ) (states : List (State L)) (conflicts : List (Conflict L)) : Type 0 where
  pub built : ArePartlyBuiltBy Closes first states
  pub listed : ListsAll lists terminals states conflicts
  pub goes_on : 0 < stop_after → ListFewer lists terminals (take (length states - 1) states) stop_after
  pub whole : ¬ AreEnough stop_after (length conflicts) → AreBuiltBy Closes first states

module _ {L : Type 0} (meaning : L → Bits) (begins : Rules → List Symbol → Token → Type 0) (passes : Rules → List Symbol → Type 0) (lists : State L → List TerminalString → List (Conflict L) → Type 0) where
  -- the construction with these settings makes the states and lists the conflicts
  abbrev pub AreMadeFor : Settings L → List (State L) → List (Conflict L) → Type 0
  AreMadeFor s = AreMadeUntilBy (IsClosureBy meaning begins passes s.construction.rules) lists s.construction.rules.terminals (map (item_at_start s.construction.lookahead) s.construction.first) s.stop_after

  -- the error has such states and conflicts, of which there are some;
  -- an allocation failure says nothing
  abbrev pub StopsFor : Settings L → BuildError L → Type 0
  StopsFor s = IfConflicts (λ error. AreMadeFor s error.states.items error.conflicts.items × (error.conflicts.items ≢ []))

-- the states are canonical ones, and the conflicts are all of theirs, of which there are some;
-- each state has its number, and the transitions and reductions of its items;
-- before the last state there were too few conflicts to stop;
-- there are enough conflicts to stop, or no canonical state is left out
pub record StopsAfter (g : Rules) (start : NonterminalString) (stop_after : ℕ) (states : List (State Bits)) (conflicts : List (Conflict Bits)) : Type 0 where
  pub states_are : AreSomeCanonicalStates g start states
  pub made : (first : List (Dotted Bits)) × ArePartlyBuilt g first states
  pub conflicts_are : AreAllConflicts g.terminals states conflicts
  pub goes_on : GoesOnBeforeLast g.terminals stop_after states
  pub either : AreEnough stop_after (length conflicts) ⊎ AreCanonicalStates g start states

-- the error has such states and conflicts; an allocation failure says nothing
abbrev pub FailsAfter : Rules → NonterminalString → ℕ → BuildError Bits → Type 0
FailsAfter g start stop_after = IfConflicts (λ error. StopsAfter g start stop_after error.states.items error.conflicts.items)

-- ---- without lookahead
-- the state is that of the live prefix: it has exactly the valid dotted productions
pub record IsLr0StateFor (g : Rules) (start : NonterminalString) (u : List Symbol) (state : State Nil) : Type 0 where
  pub live : IsLive g.productions start u
  pub items : (p : Production) (dot : ℕ) → HasDotted state p dot ↔ Valid g.productions start u p dot

-- the first state is that of the empty prefix, each is that of a live prefix, and no two have the
-- same dotted productions
pub record AreSomeLr0States (g : Rules) (start : NonterminalString) (states : List (State Nil)) : Type 0 where
  pub first : (state : State Nil) → slice_get states 0 ≡ Some state → IsLr0StateFor g start [] state
  pub each : (n : ℕ) (state : State Nil) → slice_get states n ≡ Some state → (u : List Symbol) × IsLr0StateFor g start u state
  pub differ : (n m : ℕ) (a b : State Nil) → n < m → slice_get states n ≡ Some a → slice_get states m ≡ Some b → ¬ ((p : Production) (dot : ℕ) → HasDotted a p dot ↔ HasDotted b p dot)

-- the items are the closure of the kernel, without lookahead
abbrev pub IsNilClosureOf : Rules → List (Dotted Nil) → List (Dotted Nil) → Type 0
IsNilClosureOf = IsClosureBy (λ lookahead. no_bits) (λ g rest t. ⊥) (λ g rest. ⊥)

-- the states are LR(0) ones, and the conflicts are all of theirs, of which there are some;
-- each state has its number, and the transitions and reductions of its items;
-- before the last state there were too few conflicts to stop;
-- there are enough conflicts to stop, or no LR(0) state is left out
pub record Lr0StopsAfter (g : Rules) (start : NonterminalString) (stop_after : ℕ) (states : List (State Nil)) (conflicts : List (Conflict Nil)) : Type 0 where
  pub states_are : AreSomeLr0States g start states
  pub made : (first : List (Dotted Nil)) × ArePartlyBuiltBy (IsNilClosureOf g) first states
  pub conflicts_are : conflicts ≡ flat_map nil_conflicts states
  pub some : conflicts ≢ []
  pub goes_on : 0 < stop_after → length (flat_map nil_conflicts (take (length states - 1) states)) < stop_after
  pub either : AreEnough stop_after (length conflicts) ⊎ AreLr0States g start states

-- the error has such states and conflicts; an allocation failure says nothing
abbrev pub FailsAfterLr0 : Rules → NonterminalString → ℕ → BuildError Nil → Type 0
FailsAfterLr0 g start stop_after = IfConflicts (λ error. Lr0StopsAfter g start stop_after error.states.items error.conflicts.items)
