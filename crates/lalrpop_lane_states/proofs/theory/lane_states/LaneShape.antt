-- Properties of the LR(0) states of a grammar with some tokens.
use Rattle.std.proofs.Common.{◌≡◌, ℕ, ◌<◌, Bool, List, length, refl, sym, ◌∙◌, ap, subst, arith, Option, Some, None, true}
use Rattle.std.specs.Prelude.{Contains, slice_get}
use Rattle.std.proofs.lemmas.Option.{slice_get_within}
use Rattle.lalrpop_base.specs.Words.{Bits, AreClosed, IsReached, contents_of, contents_at, contents_in, holds_token, AreLr0, Contents}
use Rattle.lalrpop_base.specs.Words.{state_after, ReducesFinished, HasRightItems, IsLive, Rules}
use Rattle.lalrpop_construction.specs.Words.{on_any, lr0_contents}
use Rattle.lalrpop_grammar.specs.states.States.{Reduction}
use Rattle.lalrpop_lane_states.proofs.Types.{Nil, NonterminalString, Production, State, Symbol, Token}
use Rattle.lalrpop_collections.proofs.theory.lists.Lists.{contains_map, grown}
use Rattle.lr1_theory.proofs.theory.closures.Closures.{reached_at}
use Rattle.lr1_theory.proofs.theory.lanes.Lanes.{items_at}
use Rattle.lalrpop_grammar.proofs.theory.closures.Valid.{of_grammar}
use Rattle.lalrpop_construction.specs.Words.{dot_of}
use Rattle.lalrpop_lane_states.specs.Words.{AreLaneStates, AreLr0Tables}
use Rattle.lalrpop_lanes.specs.Words.{HaveOwnItems}
use Rattle.lalrpop_construction.proofs.theory.construction.Reductions.{nothing_reduced}
use Rattle.lalrpop_lane_states.proofs.theory.lane_states.LaneCoherent.{coherent_there}
use Rattle.lalrpop_follow_sets.proofs.theory.lane_states.LanePlaces.{AreSamePlaces, places_same, after_same, lr0_there, closed_there, reduces_there}

-- the state is that of a live prefix, and right for it, apart from tokens
pub record IsRightAt (g : Rules) (start : NonterminalString) (states : ℕ → Contents) (n : ℕ) : Type 0 where
  pub prefix : List Symbol
  pub live : IsLive g.productions start prefix
  pub after : state_after states prefix ≡ Some n
  pub right : HasRightItems g.productions start prefix (states n)

module _ (g : Rules) (start : NonterminalString) (states : List (State Bits)) (made : AreLaneStates g start states) where
  within_bare : (n : ℕ) → n < length states → n < length made.bare
  within_bare n l = let c = made.same.counted in omega arith

  bare_reduces_at : (n : ℕ) (o : Option (State Nil)) → slice_get made.bare n ≡ o → ReducesFinished (lr0_contents made.bare n)
  bare_reduces_at n None e = subst (λ o. ReducesFinished (contents_at on_any o)) (sym e) nothing_reduced
  bare_reduces_at n (Some s) e =
      let l = made.lr0.live n (slice_get_within made.bare n s e) in
      (items_at g.productions start (lr0_contents made.bare) made.lr0.lr0 l.prefix n l.live l.after).reductions

  module _ (holds : Bits → Token → Bool) where
    abbrev here : ℕ → Contents
    here = contents_in holds states

    pub bare_same : AreSamePlaces (lr0_contents made.bare) here
    bare_same = places_same on_any holds made.bare states made.same

    pub here_lr0 : AreLr0 g.productions start here
    here_lr0 = lr0_there g.productions start (lr0_contents made.bare) here bare_same made.lr0.lr0

    pub here_closed : AreClosed g.productions start here
    here_closed = closed_there g.productions start (lr0_contents made.bare) here bare_same made.lr0.closed

    pub here_reduces : (n : ℕ) → ReducesFinished (here n)
    here_reduces n = reduces_there (lr0_contents made.bare n) (here n) (bare_same n) (bare_reduces_at n (slice_get made.bare n) refl)

    pub right_at : (n : ℕ) → n < length states → IsRightAt g start here n
    right_at n l =
        let live = made.lr0.live n (within_bare n l) in
        let after : state_after here live.prefix ≡ Some n = after_same (lr0_contents made.bare) here bare_same live.prefix ∙ live.after in
        record { prefix = live.prefix; live = live.live; after = after; right = items_at g.productions start here here_lr0 live.prefix n live.live after }

    -- each production of an item that the state lists is one of the grammar
    pub item_own : (n : ℕ) (state : State Bits) (p : Production) (dot : ℕ) → slice_get states n ≡ Some state → Contains (contents_of holds state).items (p, dot) → Contains g.productions p
    item_own n state p dot at c =
        let r = right_at n (slice_get_within states n state at) in
        of_grammar ((r.right.items p dot).0 (subst (λ (s : Contents). Contains s.items (p, dot)) (sym (ap (contents_at holds) at)) c))

    -- a state that reduces is reached
    pub reducing_reached : (n : ℕ) (r : Reduction) → Contains (here n).reductions r → IsReached here n
    reducing_reached n r c = by_case (slice_get states n) refl c
      where
        by_case : (o : Option (State Bits)) → slice_get states n ≡ o → Contains (contents_at holds o).reductions r → IsReached here n
        by_case None e c = let l = c.1 in absurd (omega arith)
        by_case (Some s) e c =
            let a = right_at n (slice_get_within states n s e) in
            reached_at g.productions start here here_closed (grown a.prefix) n a.after

  pub own_items : HaveOwnItems g.productions states
  own_items n state item at among =
      let holds : Bits → Token → Bool = λ set t. true in
      item_own holds n state item.production item.index at (contains_map dot_of state.items.vec.items item among)

  pub some_states : 0 < length states
  some_states = let c = made.same.counted in let s = made.lr0.some in omega arith

  pub lane_shape : AreLr0Tables g start states
  lane_shape = record {
    coherent = coherent_there made.bare states made.same made.lr0.coherent;
    some = some_states;
    lr0 = here_lr0 (holds_token g.terminals);
    closed = here_closed (holds_token g.terminals);
    reduces = here_reduces (holds_token g.terminals);
  }
