-- The code's states, of which those with the same dotted productions are merged: the LALR tables
-- that Aho, Sethi and Ullman, section 4.7, make of canonical ones.
use Rattle.std.specs.Prelude.{◌≡◌, ◌↔◌, ◌<◌, ℕ, List, map, length, slice_get, Some, Contains, IsTrue}
use Rattle.std.specs.Borrow.{Bor}
use Rattle.std.specs.BTreeMap.{BTreeMap, IsOrdered, get}
use Rattle.std.specs.List.Sorted.{IsStrictlySortedBy}
use Rattle.std.specs.declared.cmp.Ordering.{Ordering}
use Rattle.lalrpop_states.specs.conflicts.Failures.{IfConflicts}
use Rattle.lalrpop_grammar.specs.grammars.WellFormed.{name_cmp}
use Rattle.lalrpop_collections.specs.lists.Bits.{Bits, has}
use Rattle.lalrpop_collections.specs.lists.Each.{EachItem}
use Rattle.lalrpop_states.specs.states.Items.{Dotted, dots}
use Rattle.lalrpop_grammar.specs.contracts.repr.TerminalStringOrd.TheImpl as terminal_ord
use Rattle.lalrpop_states.specs.declared.lr1_core.state.BuildError.{BuildError}
use Rattle.lalrpop_states.specs.declared.lr1_core.state.State.{State}
use Rattle.lalrpop_states.specs.declared.lr1_core.state.StateIndex.{StateIndex}
use Rattle.lalrpop_grammar.specs.declared.repr.NonterminalString.{NonterminalString}
use Rattle.lalrpop_grammar.specs.declared.repr.Production.{Production}
use Rattle.lalrpop_grammar.specs.declared.repr.TerminalString.{TerminalString}
use Rattle.lalrpop_states.specs.grammars.Ascending.{production_order}
use Rattle.lr1_theory.specs.renumbering.Renumbered.{number_in, retargeted}
use Rattle.lalrpop_states.specs.conflicts.AllConflicts.{AreAllConflictFree, AreAllConflicts}

-- the dotted productions of a state, in the order of its items
abbrev pub dots_in : State Bits → List (Production × ℕ)
dots_in s = dots s.items.vec.items

-- the item at the place has the bit in its lookahead
abbrev pub HoldsAt : ℕ → ℕ → State Bits → Type 0
HoldsAt k bit s = (i : Dotted Bits) × (slice_get s.items.vec.items k ≡ Some i) × IsTrue (has i.lookahead bit)

-- the state reduces by the production
abbrev pub ReducesBy : Production → State Bits → Type 0
ReducesBy p s = (r : Bits × Bor Production) × Contains s.reductions.items r × (r.1.now ≡ p)

-- the state reduces by the production on the token with the bit
abbrev pub ReducesOn : Production → ℕ → State Bits → Type 0
ReducesOn p bit s = (r : Bits × Bor Production) × Contains s.reductions.items r × (r.1.now ≡ p) × IsTrue (has r.0 bit)

-- the key leads to a state whose new number is the target
abbrev pub LeadsToRenumbered : {K : Type 0} → (K → K → Ordering) → (ℕ → ℕ) → BTreeMap K StateIndex → K → StateIndex → Type 0
LeadsToRenumbered order new edges key target = (old : StateIndex) × (get order edges key ≡ Some old) × (target ≡ retargeted new old)

-- the parameter says which states are merged
module _ (Member : State Bits → Type 0) where
  -- one of the merged states has the property
  abbrev pub OfMember : (State Bits → Type 0) → Type 0
  OfMember P = (s : State Bits) × Member s × P s

  -- the state is the merge of these states under the new numbers. It has their dotted productions,
  -- with the tokens of all at each place. It has the transitions of each, to the new numbers of the
  -- targets. It has one reduction for each production by which one of them reduces, with the tokens
  -- of all
  pub record IsMerge (new : ℕ → ℕ) (number : ℕ) (merged : State Bits) : Type 0 where
    pub index : merged.index.0 ≡ number
    pub some : OfMember (λ _. Unit {0})
    pub listed : (s : State Bits) → Member s → dots_in s ≡ dots_in merged
    pub tokens : (k bit : ℕ) → HoldsAt k bit merged ↔ OfMember (HoldsAt k bit)
    pub shifts : (t : TerminalString) (target : StateIndex) → (get terminal_ord.ghosts.cmp merged.shifts t ≡ Some target) ↔ OfMember (λ s. LeadsToRenumbered terminal_ord.ghosts.cmp new s.shifts t target)
    pub gotos : (name : NonterminalString) (target : StateIndex) → (get name_cmp merged.gotos name ≡ Some target) ↔ OfMember (λ s. LeadsToRenumbered name_cmp new s.gotos name target)
    pub reduces : (p : Production) → ReducesBy p merged ↔ OfMember (ReducesBy p)
    pub holds : (p : Production) (bit : ℕ) → ReducesOn p bit merged ↔ OfMember (ReducesOn p bit)
    pub ascend : IsStrictlySortedBy production_order (map (λ (r : Bits × Bor Production). r.1.now) merged.reductions.items)

-- the state is in the list, and its new number is the given one
abbrev pub HasNewNumber : (ℕ → ℕ) → List (State Bits) → ℕ → State Bits → Type 0
HasNewNumber new before number s = (n : ℕ) × (slice_get before n ≡ Some s) × (new n ≡ number)

-- the second list has the states of the first, of which those with the same dotted productions are
-- merged, numbered by their first appearance
pub record IsCollapsed (before after : List (State Bits)) : Type 0 where
  pub numbers : List ℕ
  pub counted : length numbers ≡ length before
  pub below : (n m : ℕ) → slice_get numbers n ≡ Some m → m < length after
  pub first : (n m earlier : ℕ) → slice_get numbers n ≡ Some m → earlier < m → (k : ℕ) × (k < n) × (slice_get numbers k ≡ Some earlier)
  pub one : (n m : ℕ) (a b : State Bits) → slice_get before n ≡ Some a → slice_get before m ≡ Some b → dots_in a ≡ dots_in b → number_in numbers n ≡ number_in numbers m
  pub each : (k : ℕ) (merged : State Bits) → slice_get after k ≡ Some merged → IsMerge (HasNewNumber (number_in numbers) before k) (number_in numbers) k merged

-- the tables are the merged states of a list, and have no conflict
pub record AreCollapsedTables (terminals : List TerminalString) (before after : List (State Bits)) : Type 0 where
  pub collapsed : IsCollapsed before after
  pub free : AreAllConflictFree terminals after

-- an error has the merged states and all their conflicts, of which there is at least one; nothing
-- is said of an allocation failure
abbrev pub FailsByCollapse : List TerminalString → List (State Bits) → BuildError Bits → Type 0
FailsByCollapse terminals before = IfConflicts (λ error. IsCollapsed before error.states.items × AreAllConflicts terminals error.states.items error.conflicts.items)

-- the shifts and gotos of the state ascend, and no symbol is twice among either
pub record IsOrderedState (s : State Bits) : Type 0 where
  pub shifts : IsOrdered terminal_ord.ghosts.cmp s.shifts
  pub gotos : IsOrdered name_cmp s.gotos

-- the shifts and gotos of each state ascend
abbrev pub AreOrdered : List (State Bits) → Type 0
AreOrdered states = EachItem IsOrderedState states
