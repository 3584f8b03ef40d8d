-- States whose dotted productions and symbols are given by number.
use Rattle.std.specs.Prelude.{◌≡◌, ◌<◌, ◌↔◌, ◌++◌, ℕ, true, List, [], ◌∷◌, length, map, slice_get, Option, Some, None, Contains}
use Rattle.std.specs.List.{flat_map}
use Rattle.std.specs.Borrow.{Bor}
use Rattle.lalrpop_base.specs.Words.{AllDiffer, Bits, Contents, Dotted, contents_of, leads, with_dot, NumbersAscend, state_entries, StateEdge, Entries, HasEntry, reductions_of}
use Rattle.lalrpop_base.specs.Words.{seen_reduction}
use Rattle.lalrpop_states.specs.declared.lookahead.nil.Nil.{Nil}
use Rattle.lalrpop_grammar.specs.declared.lookahead.token.Token.{Token}
use Rattle.lalrpop_states.specs.declared.lr1_core.state.State.{State}
use Rattle.lalrpop_states.specs.declared.lr1_core.state.StateIndex.{StateIndex}
use Rattle.lalrpop_grammar.specs.declared.repr.Production.{Production}
use Rattle.lalrpop_grammar.specs.declared.repr.Symbol.{Symbol}
use Rattle.lalrpop_grammar.specs.declared.repr.Symbol.TheVariants.{Nonterminal, Terminal}
use Rattle.lalrpop_construction.specs.states.SamePlaces.{places_in}
use Rattle.lalrpop_numbers.specs.declared.numbers.numbered.Numbered.{Numbered}
use Rattle.lalrpop_numbers.specs.declared.numbers.Numbers.{Numbers}
use Rattle.lalrpop_construction.specs.declared.construction.numbered_state.NumberedState.{NumberedState}

-- the numbers of the symbols of the transitions ascend, and none is there twice
abbrev pub EdgesAscend : List (ℕ × ℕ) → Type 0
EdgesAscend edges = NumbersAscend edges

-- the state by numbers has those dotted productions and transitions of the state that have numbers
pub record IsNumberedState (n : Numbers) (place : Contents) (state : NumberedState) : Type 0 where
  pub known : (k : ℕ) → Contains state.items.items k → k < length n.items.items
  pub items : (k : ℕ) (i : Dotted Nil) → slice_get n.items.items k ≡ Some i → Contains state.items.items k ↔ Contains place.items (i.production, i.index)
  pub named : (x m : ℕ) → Contains state.edges.items (x, m) → x < length n.symbols.items
  pub edges : (x m : ℕ) (s : Symbol) → slice_get n.symbols.items x ≡ Some s → Contains state.edges.items (x, m) ↔ (leads place s ≡ Some m)

-- the numbers are those of the dotted productions of the items, one by one
pub record AreItemsAt {L : Type 0} (known : List (Dotted Nil)) (numbers : List ℕ) (items : List (Dotted L)) : Type 0 where
  pub counted : length numbers ≡ length items
  pub each : (j k : ℕ) (item : Dotted L) → slice_get items j ≡ Some item → slice_get numbers j ≡ Some k → slice_get known k ≡ Some (with_dot item.production item.index)

-- the number of an item that is given by number
abbrev pub item_number : {L : Type 0} → Numbered L → ℕ
item_number e = e.number

-- a list with the number of the item if it is finished, that is, if no symbol is after its dot
abbrev pub finished_only : Option (Option ℕ) → ℕ → List ℕ
finished_only None k = []
finished_only (Some None) k = k ∷ []
finished_only (Some (Some x)) k = []

-- a list with the number if it is that of a finished item, and otherwise an empty list
abbrev pub finished_at : Numbers → ℕ → List ℕ
finished_at n k = finished_only (slice_get n.behind.items k) k

-- the numbers of the finished items among items, in their order
abbrev pub finished_in : Numbers → List ℕ → List ℕ
finished_in n items = flat_map (finished_at n) items

-- the second list has each item of the first whose dot is at the end
abbrev pub HasFinished : Numbers → List ℕ → List ℕ → Type 0
HasFinished n items finished = (k : ℕ) → Contains items k → slice_get n.behind.items k ≡ Some None → Contains finished k

-- the numbers are those of the finished items of the reductions, in their order
pub record AreReducedNumbers {L : Type 0} (items : List (Dotted Nil)) (reductions : List (L × Bor Production)) (numbers : List ℕ) : Type 0 where
  pub counted : length numbers ≡ length reductions
  pub each : (j k : ℕ) (r : L × Bor Production) → slice_get reductions j ≡ Some r → slice_get numbers j ≡ Some k → slice_get items k ≡ Some (with_dot r.1.now (length r.1.now.symbols))

-- the list has, for each state in order, the same state by numbers, with its reductions
pub record AreNumberedStates (n : Numbers) (states : List (State Bits)) (list : List NumberedState) : Type 0 where
  pub counted : length list ≡ length states
  pub each : (s : ℕ) (state : NumberedState) → slice_get list s ≡ Some state → IsNumberedState n (places_in states s) state
  pub reduced : (s : ℕ) (old : State Bits) (state : NumberedState) → slice_get states s ≡ Some old → slice_get list s ≡ Some state → AreReducedNumbers n.items.items old.reductions.items state.reductions.items

-- the state by numbers has the items, transitions and reductions of the state;
-- the lookahead of the state does not matter
pub record IsNumberedAs {L : Type 0} (n : Numbers) (old : State L) (state : NumberedState) : Type 0 where
  pub is : IsNumberedState n (contents_of (λ (lookahead : L) (t : Token). true) old) state
  pub reduced : AreReducedNumbers n.items.items old.reductions.items state.reductions.items

-- the list has, for each state in order, the same state by numbers, for any lookahead
pub record AreNumberedAs {L : Type 0} (n : Numbers) (states : List (State L)) (list : List NumberedState) : Type 0 where
  pub counted : length list ≡ length states
  pub each : (s : ℕ) (old : State L) (state : NumberedState) → slice_get states s ≡ Some old → slice_get list s ≡ Some state → IsNumberedAs n old state

-- the transitions of a state by numbers, or none if there is no state
abbrev pub listed_transitions : Option NumberedState → List (ℕ × ℕ)
listed_transitions None = []
listed_transitions (Some state) = state.edges.items

-- the transitions of the state with the number, or none if there is no such state
abbrev pub transitions_at : List NumberedState → ℕ → List (ℕ × ℕ)
transitions_at states s = listed_transitions (slice_get states s)

-- the numbers of the items of a state by numbers, or none if there is no state
abbrev pub listed_items : Option NumberedState → List ℕ
listed_items None = []
listed_items (Some state) = state.items.items

-- the numbers of the items of the state with the number, or none if there is no such state
abbrev pub item_numbers_at : List NumberedState → ℕ → List ℕ
item_numbers_at states s = listed_items (slice_get states s)

-- ---- making them
-- one of the items has the dotted production
abbrev pub HasDots : {L : Type 0} → List (Dotted L) → Dotted Nil → Type 0
HasDots {L} items i = (item : Dotted L) × Contains items item × (item.production ≡ i.production) × (item.index ≡ i.index)

-- the list has the transitions of the entries whose symbols have numbers, and no others
pub record AreListedBy (symbols : List Symbol) (list : List (ℕ × ℕ)) (entries : Entries) : Type 0 where
  pub named : (x m : ℕ) → Contains list (x, m) → x < length symbols
  pub there : (x m : ℕ) (s : Symbol) → slice_get symbols x ≡ Some s → Contains list (x, m) → HasEntry entries s (record { 0 = m })
  pub back : (x : ℕ) (s : Symbol) (target : StateIndex) → slice_get symbols x ≡ Some s → HasEntry entries s target → Contains list (x, target.0)

-- the list has these transitions, and the numbers of the symbols ascend
pub record AreEdgesBy (symbols : List Symbol) (list : List (ℕ × ℕ)) (entries : Entries) : Type 0 where
  pub listed : AreListedBy symbols list entries
  pub ascend : EdgesAscend list

-- the pair at the index has the number as its key
abbrev pub IsKeyAt : {V : Type 0} → List (ℕ × V) → ℕ → ℕ → Type 0
IsKeyAt {V} list place x = (e : ℕ × V) × (slice_get list place ≡ Some e) × (e.0 ≡ x)

-- each pair has the same key as the pair at the same index in another list
abbrev pub HasKeys : {V : Type 0} → List (ℕ × ℕ) → List (ℕ × V) → Type 0
HasKeys list others = (k : ℕ) (e : ℕ × ℕ) → slice_get list k ≡ Some e → IsKeyAt others k e.0

-- the entries with an edge more, after the others of its kind
abbrev pub with_edge : Entries → StateEdge → Entries
with_edge entries (Nonterminal a, target) = record { shifts = entries.shifts; gotos = entries.gotos ++ (a, target) ∷ [] }
with_edge entries (Terminal t, target) = record { shifts = entries.shifts ++ (t, target) ∷ []; gotos = entries.gotos }

-- the entries with more edges
abbrev pub with_edges : Entries → List StateEdge → Entries
with_edges entries [] = entries
with_edges entries (e ∷ es) = with_edges (with_edge entries e) es

-- if the old list had the transitions of some entries, the new list has those of these edges too
abbrev pub AddsEdges : List Symbol → List (ℕ × ℕ) → List (ℕ × ℕ) → List StateEdge → Type 0
AddsEdges symbols old new edges = AllDiffer symbols → (entries : Entries) → AreListedBy symbols old entries → AreListedBy symbols new (with_edges entries edges)

-- the numbers are those of the items and transitions of the state, which reduces by its finished
-- items
pub record IsMadeByNumber {L : Type 0} (n : Numbers) (listed : List ℕ) (transitions : List (ℕ × ℕ)) (state : State L) : Type 0 where
  pub items : AreItemsAt n.items.items listed state.items.vec.items
  pub edges : AreEdgesBy n.symbols.items transitions (state_entries state)
  pub finished : map seen_reduction state.reductions.items ≡ reductions_of state.items.vec.items
