-- The conditions of the check of tables by number.
use Rattle.std.specs.Prelude.{◌≡◌, ◌<◌, ◌+◌, ◌⊎◌, ◌↔◌, ℕ, Bool, true, List, length, slice_get, Option, Some, Contains}
use Rattle.std.specs.Borrow.{Bor}
use Rattle.lalrpop_base.specs.Words.{AllDiffer, Bits, Dotted, InClosure, InKernel, Rules, contents_of, has}
use Rattle.lalrpop_check.specs.check.ExpectedKernels.{IsKernelAt}
use Rattle.lalrpop_states.specs.declared.lookahead.nil.Nil.{Nil}
use Rattle.lalrpop_grammar.specs.declared.lookahead.token.Token.{Token}
use Rattle.lalrpop_states.specs.declared.lr1_core.state.State.{State}
use Rattle.lalrpop_grammar.specs.declared.repr.NonterminalString.{NonterminalString}
use Rattle.lalrpop_grammar.specs.declared.repr.Production.{Production}
use Rattle.lalrpop_follow_sets.specs.follow_sets.FollowWalks.{IsInUnion, entries_at}
use Rattle.lalrpop_construction.specs.states.NumberedStates.{AreItemsAt, AreReducedNumbers, HasFinished, IsNumberedState, item_numbers_at, transitions_at}
use Rattle.lalrpop_numbers.specs.declared.numbers.Numbers.{Numbers}
use Rattle.lalrpop_follow_sets.specs.declared.follow_sets.sets.FollowSets.{FollowSets}
use Rattle.lalrpop_construction.specs.declared.construction.numbered_state.NumberedState.{NumberedState}

-- ---- one state
-- the state by number has these items, the transitions of the state, and its reductions: these are
-- by all of its finished items, once each
pub record IsListedOver (n : Numbers) (items : List ℕ) (old : State Bits) (state : NumberedState) : Type 0 where
  pub same : state.items.items ≡ items
  pub listed : AreItemsAt n.items.items items old.items.vec.items
  pub numbered : IsNumberedState n (contents_of (λ lookahead (t : Token). true) old) state
  pub reduced : AreReducedNumbers n.items.items old.reductions.items state.reductions.items
  pub finished : HasFinished n items state.reductions.items
  pub once : AllDiffer state.reductions.items

-- the dotted productions of the state are the closure of the kernel
abbrev pub ListsClosure : Rules → List (Dotted Nil) → State Bits → Type 0
ListsClosure g kernel old = (p : Production) (dot : ℕ) → InKernel old.items.vec.items p dot ↔ InClosure g.productions (InKernel kernel) p dot

-- the state lists the closure of its kernel
pub record IsListedState (g : Rules) (start : NonterminalString) (n : Numbers) (s : ℕ) (old : State Bits) (state : NumberedState) : Type 0 where
  pub kernel : List (Dotted Nil)
  pub is : IsKernelAt g start s kernel
  pub closed : ListsClosure g kernel old
  pub over : IsListedOver n state.items.items old state

-- each state of the list lists the closure of its kernel
pub record AreListedByNumber (g : Rules) (start : NonterminalString) (n : Numbers) (states : List (State Bits)) (list : List NumberedState) : Type 0 where
  pub counted : length list ≡ length states
  pub each : (s : ℕ) (old : State Bits) (state : NumberedState) → slice_get states s ≡ Some old → slice_get list s ≡ Some state → IsListedState g start n s old state

-- each state that is listed at its place lists the closure of its kernel
pub record AreListedAtPlaces (g : Rules) (start : NonterminalString) (n : Numbers) (states : List (State Bits)) (list : List (Option NumberedState)) : Type 0 where
  pub counted : length list ≡ length states
  pub each : (s : ℕ) (old : State Bits) (state : NumberedState) → slice_get states s ≡ Some old → slice_get list s ≡ Some (Some state) → IsListedState g start n s old state

-- ---- the targets of symbols
-- the symbol x leads to a state that lists the moved item. Below, this is so for the symbol after
-- the item's dot, if there is one
pub record LeadsByNumber (list : List NumberedState) (edges : List (ℕ × ℕ)) (item x : ℕ) : Type 0 where
  pub target : ℕ
  pub edge : Contains edges (x, target)
  pub moved : Contains (item_numbers_at list target) (item + 1)

abbrev pub LeadsOnByNumber : Numbers → List NumberedState → List (ℕ × ℕ) → ℕ → Type 0
LeadsOnByNumber n list edges item = (x : ℕ) → slice_get n.behind.items item ≡ Some (Some x) → LeadsByNumber list edges item x

-- the symbol after the dot of each item of the state leads to a state that lists the moved item
abbrev pub ItemsLeadOn : Numbers → List NumberedState → NumberedState → Type 0
ItemsLeadOn n list state = (item : ℕ) → Contains state.items.items item → LeadsOnByNumber n list state.edges.items item

-- the same of each state of the list
abbrev pub AllItemsLeadOn : Numbers → List NumberedState → Type 0
AllItemsLeadOn n list = (s : ℕ) (state : NumberedState) → slice_get list s ≡ Some state → ItemsLeadOn n list state

-- ---- which states are reached
pub data IsReachedByNumber (list : List NumberedState) : ℕ → Type 0 where
  at_first : IsReachedByNumber list 0
  over_transition : (s x m : ℕ) → IsReachedByNumber list s → Contains (transitions_at list s) (x, m) → IsReachedByNumber list m

-- each marked state is reached
abbrev pub AreMarkedReached : List NumberedState → List Bool → Type 0
AreMarkedReached list marks = (m : ℕ) → slice_get marks m ≡ Some true → IsReachedByNumber list m

-- each state that was found is marked
abbrev pub AreFoundMarked : List Bool → List ℕ → Type 0
AreFoundMarked marks found = (m : ℕ) → Contains found m → slice_get marks m ≡ Some true

-- each marked state was marked before, or is the target. Each state that was found is marked, if that
-- was so before
pub record MarksTarget (target : ℕ) (old : List Bool) (found : List ℕ) (new : List Bool) (more : List ℕ) : Type 0 where
  pub counted : length new ≡ length old
  pub from : (m : ℕ) → slice_get new m ≡ Some true → (slice_get old m ≡ Some true) ⊎ (m ≡ target)
  pub marked : AreFoundMarked old found → AreFoundMarked new more

-- each marked state was marked before, or is a target of the edges. Each state that was found is
-- marked, if that was so before
pub record MarksTargets (edges : List (ℕ × ℕ)) (old : List Bool) (found : List ℕ) (new : List Bool) (more : List ℕ) : Type 0 where
  pub counted : length new ≡ length old
  pub from : (m : ℕ) → slice_get new m ≡ Some true → (slice_get old m ≡ Some true) ⊎ ((x : ℕ) × Contains edges (x, m))
  pub marked : AreFoundMarked old found → AreFoundMarked new more

-- each state of the list is reached
abbrev pub AreReachedByNumber : List NumberedState → Type 0
AreReachedByNumber list = (s : ℕ) → s < length list → IsReachedByNumber list s

-- ---- tokens of reductions
-- the reduction holds all tokens of the union over the entries of its finished item
pub record HoldsUnion (follow : List Bits) (entries : List (ℕ × ℕ)) (k : ℕ) (held : Bits) : Type 0 where
  pub set : Bits
  pub union : (bit : ℕ) → (has set bit ≡ true) ↔ IsInUnion follow entries k bit
  pub within : (bit : ℕ) → has set bit ≡ true → has held bit ≡ true

-- each reduction holds all tokens of the set at its place
abbrev pub HoldSets : List (Bits × Bor Production) → List Bits → Type 0
HoldSets reductions sets = (j bit : ℕ) (r : Bits × Bor Production) (set : Bits) → slice_get reductions j ≡ Some r → slice_get sets j ≡ Some set → has set bit ≡ true → has r.0 bit ≡ true

-- each reduction of each state holds all tokens of the union for its finished item
abbrev pub HoldUnions : FollowSets → List (State Bits) → List NumberedState → Type 0
HoldUnions found states list = (s j k : ℕ) (old : State Bits) (state : NumberedState) (r : Bits × Bor Production) → slice_get states s ≡ Some old → slice_get list s ≡ Some state → slice_get old.reductions.items j ≡ Some r → slice_get state.reductions.items j ≡ Some k → HoldsUnion found.follow.items (entries_at found.lookback.items s) k r.0
