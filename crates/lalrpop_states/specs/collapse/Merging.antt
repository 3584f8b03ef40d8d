-- Merging of states with the same dotted productions, one state at a time.
-- `build_lalr` makes these steps. The module `Collapsed` of `lalrpop_tables` defines the result.
use Rattle.std.specs.Prelude.{◌≡◌, ◌↔◌, ◌<◌, ◌≤◌, ◌++◌, ◌∷◌, [], ℕ, zero, suc, List, map, length, slice_get, Some, None, Option, Contains, IsTrue}
use Rattle.std.specs.Borrow.{Bor}
use Rattle.std.specs.BTreeMap.{BTreeMap, get}
use Rattle.std.specs.List.Sorted.{IsStrictlySortedBy}
use Rattle.std.specs.Map.{lookup, keys_of}
use Rattle.std.specs.Option.{option_or}
use Rattle.std.specs.Ordering.{is_eq}
use Rattle.std.specs.declared.cmp.Ordering.{Ordering}
use Rattle.lalrpop_grammar.specs.grammars.WellFormed.{name_cmp}
use Rattle.lalrpop_collections.specs.lists.Bits.{Bits, has, join}
use Rattle.lalrpop_states.specs.states.Items.{Dotted}
use Rattle.lalrpop_grammar.specs.contracts.repr.TerminalStringOrd.TheImpl as terminal_ord
use Rattle.lalrpop_states.specs.declared.lookahead.nil.Nil.{Nil}
use Rattle.lalrpop_states.specs.declared.lr1_core.state.State.{State}
use Rattle.lalrpop_states.specs.declared.lr1_core.state.StateIndex.{StateIndex}
use Rattle.lalrpop_grammar.specs.declared.repr.Production.{Production}
use Rattle.lalrpop_states.specs.grammars.Ascending.{production_order}

-- ---- numbers by first appearance
-- each value of the list has a number;
-- equal values have the same number, different values have different numbers, and each number
-- appears after all lower ones
pub record AreFirstNumbers {X : Type 0} (xs : List X) (numbers : List ℕ) : Type 0 where
  pub counted : length numbers ≡ length xs
  pub same : (n m : ℕ) (x : X) → slice_get xs n ≡ Some x → slice_get xs m ≡ Some x → slice_get numbers n ≡ slice_get numbers m
  pub apart : (n m number : ℕ) → slice_get numbers n ≡ Some number → slice_get numbers m ≡ Some number → slice_get xs n ≡ slice_get xs m
  pub first : (n m earlier : ℕ) → slice_get numbers n ≡ Some m → earlier < m → (k : ℕ) × (k < n) × (slice_get numbers k ≡ Some earlier)

-- the dotted production, as an item without tokens
abbrev pub bare : Production × ℕ → Dotted Nil
bare (p, dot) = record { production = p; index = dot; lookahead = record {} }

-- ---- one more state
-- the first item, with the tokens of both
abbrev pub joined_item : Dotted Bits → Dotted Bits → Dotted Bits
joined_item i j = record { production = i.production; index = i.index; lookahead = join i.lookahead j.lookahead }

-- the items, with the tokens of another item added to the one at the index
abbrev pub joined_at : List (Dotted Bits) → ℕ → Dotted Bits → List (Dotted Bits)
joined_at [] n j = []
joined_at (i ∷ is) zero j = joined_item i j ∷ is
joined_at (i ∷ is) (suc n) j = i ∷ joined_at is n j

-- the items, with the tokens of the item at the same index in another list added to each
abbrev pub joined_items : List (Dotted Bits) → List (Dotted Bits) → List (Dotted Bits)
joined_items is [] = is
joined_items [] (j ∷ js) = []
joined_items (i ∷ is) (j ∷ js) = joined_item i j ∷ joined_items is js

-- the third map has the transitions of both maps;
-- for a key that both have, it has the target of the second map
abbrev pub Overlays : {K : Type 0} → (K → K → Ordering) → BTreeMap K StateIndex → BTreeMap K StateIndex → BTreeMap K StateIndex → Type 0
Overlays {K} order old more new = (key : K) → get order new key ≡ option_or (get order more key) (get order old key)

-- the third state is the first one, with the tokens, transitions and reductions of the second added
pub record IsJoined (merged state joined : State Bits) : Type 0 where
  pub index : joined.index ≡ merged.index
  pub items : joined.items.vec.items ≡ joined_items merged.items.vec.items state.items.vec.items
  pub shifts : Overlays terminal_ord.ghosts.cmp merged.shifts state.shifts joined.shifts
  pub gotos : Overlays name_cmp merged.gotos state.gotos joined.gotos
  pub reductions : joined.reductions.items ≡ merged.reductions.items ++ state.reductions.items

-- in the new list, the state is joined to the old state at the index that is its number
pub record IsPlacedAt (state : State Bits) (old new : List (State Bits)) : Type 0 where
  pub merged : State Bits
  pub joined : State Bits
  pub was : slice_get old state.index.0 ≡ Some merged
  pub is : slice_get new state.index.0 ≡ Some joined
  pub counted : length new ≡ length old
  pub others : (k : ℕ) → (k ≡ state.index.0 → ⊥) → slice_get new k ≡ slice_get old k
  pub join : IsJoined merged state joined

-- the second list has the states of the first, placed one after the other at their numbers;
-- a state whose number is not an index yet is added after the others;
-- any other state is joined to the state at its number
pub data ArePlaced : List (State Bits) → List (State Bits) → Type 0 where
  none : ArePlaced [] []
  pushed : {before merged all new : List (State Bits)} (state : State Bits) → ArePlaced before merged → length merged ≤ state.index.0 → all ≡ before ++ state ∷ [] → new ≡ merged ++ state ∷ [] → ArePlaced all new
  joined : {before merged all new : List (State Bits)} (state : State Bits) → ArePlaced before merged → IsPlacedAt state merged new → all ≡ before ++ state ∷ [] → ArePlaced all new

-- the new list is the old one after the state is placed in it
abbrev pub Places : State Bits → List (State Bits) → List (State Bits) → Type 0
Places state old new = (all before : List (State Bits)) → ArePlaced before old → all ≡ before ++ state ∷ [] → ArePlaced all new

-- ---- reductions
-- one of the reductions is by the production
abbrev pub HasReduction : Production → List (Bits × Bor Production) → Type 0
HasReduction p rs = (r : Bits × Bor Production) × Contains rs r × (r.1.now ≡ p)

-- one of the reductions is by the production, on the token with the bit
abbrev pub HasReductionOn : Production → ℕ → List (Bits × Bor Production) → Type 0
HasReductionOn p bit rs = (r : Bits × Bor Production) × Contains rs r × (r.1.now ≡ p) × IsTrue (has r.0 bit)

-- the second list has one reduction for each production of the first list, ascending;
-- it holds the tokens of all reductions by this production
pub record AreJoinedReductions (given joined : List (Bits × Bor Production)) : Type 0 where
  pub reduces : (p : Production) → HasReduction p joined ↔ HasReduction p given
  pub holds : (p : Production) (bit : ℕ) → HasReductionOn p bit joined ↔ HasReductionOn p bit given
  pub ascend : IsStrictlySortedBy production_order (map (λ (r : Bits × Bor Production). r.1.now) joined)

-- the tokens are those of all reductions by the production in the list, or none if it has none
abbrev pub AreTokensOf : Production → List (Bits × Bor Production) → Option Bits → Type 0
AreTokensOf p given None = ¬ HasReduction p given
AreTokensOf p given (Some tokens) = HasReduction p given × ((bit : ℕ) → IsTrue (has tokens bit) ↔ HasReductionOn p bit given)

-- the tokens that a map has for a production, if it has the production
abbrev pub tokens_at : List (Bor Production × Bits) → Production → Option Bits
tokens_at m p = lookup (λ (b : Bor Production). is_eq (production_order p b.now)) m

-- the map has each production of the list, with the tokens of all its reductions, and no other
abbrev pub HasTokensOf : List (Bits × Bor Production) → List (Bor Production × Bits) → Type 0
HasTokensOf given m = (p : Production) → AreTokensOf p given (tokens_at m p)

-- the list has the entries of the map as reductions, and the productions ascend
pub record AreReductionsOfMap (m : List (Bor Production × Bits)) (list : List (Bits × Bor Production)) : Type 0 where
  pub all : list ≡ map (λ (e : Bor Production × Bits). (e.1, e.0)) m
  pub ascend : IsStrictlySortedBy (λ (a b : Bor Production). production_order a.now b.now) (keys_of m)

-- the second state is the first one with its reductions joined, and is the same in all else
pub record IsReduced (before after : State Bits) : Type 0 where
  pub index : after.index ≡ before.index
  pub items : after.items ≡ before.items
  pub shifts : after.shifts ≡ before.shifts
  pub gotos : after.gotos ≡ before.gotos
  pub reductions : AreJoinedReductions before.reductions.items after.reductions.items
