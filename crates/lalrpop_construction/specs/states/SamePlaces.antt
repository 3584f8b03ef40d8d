-- States that are the same but for their lookaheads.
use Rattle.std.specs.Prelude.{List, Some, length, map, slice_get, ℕ, ◌≡◌, true}
use Rattle.std.specs.Borrow.{Bor}
use Rattle.lalrpop_base.specs.Words.{Dotted, Contents, contents_in}
use Rattle.lalrpop_states.specs.declared.lr1_core.state.State.{State}
use Rattle.lalrpop_grammar.specs.declared.repr.Production.{Production}

-- ---- states with some tokens
-- the dotted production of an item
abbrev pub dot_of : {L : Type 0} → Dotted L → Production × ℕ
dot_of item = (item.production, item.index)

-- the production of a reduction
abbrev pub by : {L : Type 0} → L × Bor Production → Production
by r = r.1.now

-- the second state is the first one with other lookaheads;
-- it has the same number, dotted productions, shifts, gotos and productions of reductions
pub record HasSamePlace {K L : Type 0} (old : State K) (new : State L) : Type 0 where
  pub index : new.index ≡ old.index
  pub dots : map dot_of new.items.vec.items ≡ map dot_of old.items.vec.items
  pub shifts : new.shifts ≡ old.shifts
  pub gotos : new.gotos ≡ old.gotos
  pub reduced : map by new.reductions.items ≡ map by old.reductions.items

-- the lists have the same number of states, and the states at the same index differ in lookaheads
-- alone
pub record HaveSamePlaces {K L : Type 0} (old : List (State K)) (new : List (State L)) : Type 0 where
  pub counted : length new ≡ length old
  pub each : (n : ℕ) (before : State K) (after : State L) → slice_get old n ≡ Some before → slice_get new n ≡ Some after → HasSamePlace before after

-- the contents of the state with each number, with reductions on any token: lanes do not use tokens
abbrev pub places_in : {L : Type 0} → List (State L) → ℕ → Contents
places_in states = contents_in (λ lookahead t. true) states
