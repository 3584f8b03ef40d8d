-- Context sets (Pager 1977): for each action that is traced, the tokens on which it is taken.
use Rattle.std.specs.Prelude.{◌≡◌, ◌==◌, ◌⊎◌, ℕ, true, cond, List, length, slice_get, option_map, Some}
use Rattle.std.specs.Borrow.{Bor}
use Rattle.lalrpop_collections.specs.lists.Bits.{Bits, has, join}
use Rattle.lalrpop_states.specs.declared.lr1_core.state.Action.{Action}
use Rattle.lalrpop_states.specs.declared.lr1_core.state.Action.TheVariants.{Reduce}
use Rattle.lalrpop_states.specs.declared.lr1_core.state.State.{State}
use Rattle.lalrpop_grammar.specs.declared.repr.Production.{Production}

-- the column has the token
abbrev pub HasAt : List Bits → ℕ → ℕ → Type 0
HasAt columns index bit = (set : Bits) × (slice_get columns index ≡ Some set) × (has set bit ≡ true)

-- a column other than the one with the index shares a token with the set
pub record MeetsOther (columns : List Bits) (index : ℕ) (tokens : Bits) : Type 0 where
  pub other : ℕ
  pub apart : other ≡ index → ⊥
  pub bit : ℕ
  pub there : HasAt columns other bit
  pub shared : has tokens bit ≡ true

-- the new columns are the old ones, with the tokens joined to the one with the index
pub record IsJoinedIn (index : ℕ) (tokens : Bits) (old new : List Bits) : Type 0 where
  pub counted : length new ≡ length old
  pub joined : (k : ℕ) → slice_get new k ≡ option_map (λ (set : Bits). cond (k == index) (join set tokens) set) (slice_get old k)

-- the columns of the union are those of both, joined one by one
pub record IsUnion (a b union : List Bits) : Type 0 where
  pub counted : length union ≡ length a
  pub joined : (k : ℕ) (s t : Bits) → slice_get a k ≡ Some s → slice_get b k ≡ Some t → slice_get union k ≡ Some (join s t)

-- a column of the second shares a token with another column, of the first or of the second
pub record MeetInUnion (a b : List Bits) : Type 0 where
  pub index : ℕ
  pub other : ℕ
  pub apart : other ≡ index → ⊥
  pub bit : ℕ
  pub here : HasAt b index bit
  pub there : HasAt a other bit ⊎ HasAt b other bit

-- no two columns share a token
abbrev pub AreDisjoint : List Bits → Type 0
AreDisjoint columns = (i j bit : ℕ) → HasAt columns i bit → HasAt columns j bit → i ≡ j

-- the action at the place is the reduction by the production
pub record IsReductionAt (actions : List Action) (place : ℕ) (p : Production) : Type 0 where
  pub lent : Bor Production
  pub action : slice_get actions place ≡ Some (Reduce lent)
  pub same : lent.now ≡ p

-- the reduction took the tokens of the column at the place of its action
pub record TookColumn (actions : List Action) (columns : List Bits) (old new : Bits × Bor Production) : Type 0 where
  pub same : new.1 ≡ old.1
  pub place : ℕ
  pub action : IsReductionAt actions place old.1.now
  pub column : slice_get columns place ≡ Some new.0

-- the reductions took the tokens of their columns, in their old order
pub record TookColumns (actions : List Action) (columns : List Bits) (old new : List (Bits × Bor Production)) : Type 0 where
  pub counted : length new ≡ length old
  pub each : (k : ℕ) (r q : Bits × Bor Production) → slice_get old k ≡ Some r → slice_get new k ≡ Some q → TookColumn actions columns r q

-- the action is the reduction by the production
abbrev pub Reduces : Action → Production → Type 0
Reduces action p = (lent : Bor Production) × (action ≡ Reduce lent) × (lent.now ≡ p)

-- each reduction of the list is among the actions
abbrev pub AreReducedAmong : List Action → List (Bits × Bor Production) → Type 0
AreReducedAmong actions reductions = (k : ℕ) (r : Bits × Bor Production) → slice_get reductions k ≡ Some r → (place : ℕ) × IsReductionAt actions place r.1.now

-- the new state is the old one, but its reductions took the tokens of their columns
pub record IsApplied (actions : List Action) (columns : List Bits) (old new : State Bits) : Type 0 where
  pub index : new.index ≡ old.index
  pub items : new.items ≡ old.items
  pub shifts : new.shifts ≡ old.shifts
  pub gotos : new.gotos ≡ old.gotos
  pub counted : length new.reductions.items ≡ length old.reductions.items
  pub each : (k : ℕ) (r q : Bits × Bor Production) → slice_get old.reductions.items k ≡ Some r → slice_get new.reductions.items k ≡ Some q → TookColumn actions columns r q

-- each reduction of the state is among the actions
abbrev pub AreAmong : List Action → State Bits → Type 0
AreAmong actions state = (k : ℕ) (r : Bits × Bor Production) → slice_get state.reductions.items k ≡ Some r → (place : ℕ) × IsReductionAt actions place r.1.now
