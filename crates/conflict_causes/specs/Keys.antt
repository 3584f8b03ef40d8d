-- Keys of conflicts: two conflicts have the same key if and only if they have one cause.
use Rattle.std.specs.Prelude.{◌≡◌, ◌↔◌, ℕ, ◌≤◌, List, [], ◌∷◌, ◌++◌, length, set, slice_get, Some, Contains}
use Rattle.std.specs.BTreeSet.{BTreeSet, IsOrdered}
use Rattle.std.specs.declared.cmp.Ordering.{Ordering}
use Rattle.std.specs.Ordering.{then_cmp, on, nat_cmp}
use Rattle.lalrpop_collections.specs.lists.Bits.{Bits}
use Rattle.lalrpop_collections.specs.lists.CheckSets.{IsAdded}
use Rattle.lalrpop_collections.specs.lists.Places.{AllDiffer}
use Rattle.lalrpop_collections.specs.states.Kernels.{AddsOnce}
use Rattle.lalrpop_grammar.specs.declared.repr.Symbol.TheVariants.{Terminal}
use Rattle.lalrpop_grammar.specs.declared.repr.TerminalString.{TerminalString}
use Rattle.lalrpop_states.specs.contracts.lookahead.nil.NilOrd.TheImpl as nil_ord
use Rattle.lalrpop_states.specs.declared.lookahead.nil.Nil.{Nil}
use Rattle.lalrpop_states.specs.declared.lr1_core.state.Action.{Action}
use Rattle.lalrpop_states.specs.declared.lr1_core.state.Conflict.{Conflict}
use Rattle.lalrpop_states.specs.declared.lr1_core.state.State.{State}
use Rattle.lalrpop_states.specs.declared.lr1_core.state.StateIndex.{StateIndex}
use Rattle.lalrpop_states.specs.grammars.Ascending.{production_order}
use Rattle.lalrpop_states.specs.states.CheckStates.{finished}
use Rattle.lalrpop_states.specs.states.Items.{Dotted}
use Rattle.conflict_causes.specs.Causes.{IsOfAction}

-- the order of items without lookahead: by production, and then by the index of the dot
abbrev pub item_order : Dotted Nil → Dotted Nil → Ordering
item_order = then_cmp (on (λ (i : Dotted Nil). i.production) production_order) (then_cmp (on (λ (i : Dotted Nil). i.index) nat_cmp) (on (λ (i : Dotted Nil). i.lookahead) nil_ord.ghosts.cmp))

-- the terminal is after the dot
abbrev pub IsBeforeTerminal : TerminalString → Dotted Nil → Type 0
IsBeforeTerminal t item = slice_get item.production.symbols item.index ≡ Some (Terminal t)

-- an item was added to a set if the terminal is after its dot, and else the set is the same
pub data AddsIfBefore (t : TerminalString) (item : Dotted Nil) (old new : List (Dotted Nil)) : Type 0 where
  added : IsBeforeTerminal t item → IsAdded item old new → AddsIfBefore t item old new
  same : (IsBeforeTerminal t item → ⊥) → new ≡ old → AddsIfBefore t item old new

-- the set has the items of an action of a state, and no others
pub record AreItemsOfAction (states : List (State Bits)) (state : StateIndex) (action : Action) (items : BTreeSet (Dotted Nil)) : Type 0 where
  pub ordered : IsOrdered item_order items
  pub members : (item : Dotted Nil) → Contains items.keys item ↔ IsOfAction states state action (item.production, item.index)

-- the key of a conflict: the finished item of its reduction, and the items of its other action in
-- ascending order
pub record IsKey (states : List (State Bits)) (c : Conflict Bits) (key : List (Dotted Nil)) : Type 0 where
  pub items : BTreeSet (Dotted Nil)
  pub listed : key ≡ finished c.production.now ∷ items.keys
  pub others : AreItemsOfAction states c.state c.action items

-- a number was put to the end of the group with the number n, or into a new group at the end
pub data PutsInto (n i : ℕ) (old new : List (List ℕ)) : Type 0 where
  known : (group : List ℕ) → slice_get old n ≡ Some group → new ≡ set old n (group ++ i ∷ []) → PutsInto n i old new
  fresh : length old ≤ n → new ≡ old ++ (i ∷ []) ∷ [] → PutsInto n i old new

-- a conflict with the number i was put into the group of its key
pub record PutsConflict (states : List (State Bits)) (c : Conflict Bits) (i : ℕ) (old_keys new_keys : List (List (Dotted Nil))) (old new : List (List ℕ)) : Type 0 where
  pub key : List (Dotted Nil)
  pub number : ℕ
  pub is_key : IsKey states c key
  pub added : AddsOnce old_keys new_keys key
  pub differ : AllDiffer new_keys
  pub there : slice_get new_keys number ≡ Some key
  pub put : PutsInto number i old new
