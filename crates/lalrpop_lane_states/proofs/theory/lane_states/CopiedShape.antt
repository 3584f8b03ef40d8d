-- Properties of LR(0) states and copies of these, apart from their tokens: they are closed, each
-- item is of the grammar, and each reduction is by a finished item.
use Rattle.std.proofs.Common.{◌≡◌, ℕ, ◌<◌, Bool, List, length, refl, sym, ◌∙◌, ap, subst, arith, Some, option_map, true}
use Rattle.std.specs.Prelude.{Contains, slice_get}
use Rattle.std.specs.Borrow.{Bor}
use Rattle.std.proofs.lemmas.Option.{slice_get-map}
use Rattle.lalrpop_base.specs.Words.{Bits, AreClosed, contents, contents_of, contents_at, holds_token, reduction_of, Contents, ReducesFinished, Rules}
use Rattle.lalrpop_construction.specs.Words.{dot_of, places_in}
use Rattle.lalrpop_lane_states.proofs.Types.{NonterminalString, Production, State, Token}
use Rattle.lalrpop_lane_states.specs.Words.{AreClosedTables, AreLaneStates, AreLr0Copies}
use Rattle.lalrpop_collections.proofs.theory.lists.Lists.{contains_map, contains_of_map}
use Rattle.lalrpop_follow_sets.proofs.theory.lane_states.LanePlaces.{AreSamePlaces, closed_there, place_itself, places_same, reduces_there}
use Rattle.lalrpop_lane_states.proofs.theory.lane_states.LaneShape.{lane_shape}
use Rattle.lalrpop_lane_states.proofs.theory.lane_states.Lr0Copies.{copied_closed, copied_own}
use Rattle.lalrpop_lane_states.proofs.theory.lane_states.Resolving.{no_copies, own_numbers}

-- LR(0) states are their own copies
pub lane_copies : (g : Rules) (start : NonterminalString) (copies : ℕ) (states : List (State Bits)) → AreLaneStates g start states → AreLr0Copies g start copies states
lane_copies g start copies states made = record {
  handed = states;
  made = made;
  originals = own_numbers states;
  each = no_copies states (lane_shape g start states made).coherent;
  counted = omega arith;
}

module _ (g : Rules) (start : NonterminalString) (copies : ℕ) (states : List (State Bits)) (made : AreLr0Copies g start copies states) where
  abbrev any : Bits → Token → Bool
  any lookahead t = true

  abbrev places : ℕ → Contents
  places = places_in states

  tables : AreClosedTables g start states
  tables = copied_closed g start made.handed made.made made.originals states made.each

  same : AreSamePlaces (contents g.terminals states) places
  same = places_same (holds_token g.terminals) any states states (place_itself states)

  pub places_closed : AreClosed g.productions start places
  places_closed = closed_there g.productions start (contents g.terminals states) places same tables.closed

  places_reduce : (n : ℕ) → ReducesFinished (places n)
  places_reduce n = reduces_there (contents g.terminals states n) (places n) (same n) (tables.reduces n)

  -- each item is of a production of the grammar
  pub copied_item : (n : ℕ) (state : State Bits) (p : Production) (dot : ℕ) → slice_get states n ≡ Some state → Contains (contents_of any state).items (p, dot) → Contains g.productions p
  copied_item n state p dot at c =
      let i = contains_of_map dot_of state.items.vec.items (p, dot) c in
      subst (λ (d : Production × ℕ). Contains g.productions d.0) i.2 (copied_own g start made.handed made.made made.originals states made.each n state i.0 at i.1)

  -- a reduction of the code's state is by one of its finished productions
  pub reduced_item : (n : ℕ) (state : State Bits) (r : Bits × Bor Production) → slice_get states n ≡ Some state → Contains state.reductions.items r → Contains (places n).items (r.1.now, length r.1.now.symbols)
  reduced_item n state r at among =
      let c : Contains (places n).reductions (reduction_of any r) = subst (λ (s : Contents). Contains s.reductions (reduction_of any r)) (sym (ap (contents_at any) at)) (contains_map (reduction_of any) state.reductions.items r among) in
      ((places_reduce n).finished r.1.now).0 (reduction_of any r, c, refl)

  -- no two reductions of a state are by one production
  pub reduced_once : (n : ℕ) (state : State Bits) → slice_get states n ≡ Some state → (i j : ℕ) (r q : Bits × Bor Production) → i < j → slice_get state.reductions.items i ≡ Some r → slice_get state.reductions.items j ≡ Some q → r.1.now ≡ q.1.now → ⊥
  reduced_once n state at i j r q l at_i at_j e =
      let once = (subst ReducesFinished (ap (contents_at any) at) (places_reduce n)).once in
      once i j (reduction_of any r) (reduction_of any q) l
      (slice_get-map (reduction_of any) state.reductions.items i ∙ ap (option_map (reduction_of any)) at_i)
      (slice_get-map (reduction_of any) state.reductions.items j ∙ ap (option_map (reduction_of any)) at_j) e
