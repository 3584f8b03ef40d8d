-- Closed LR(0) states that hold their lane tokens pass the check of tables if the grammar is
-- LALR(1). Tracing back over edges finds the tokens that are carried over them.
use Rattle.std.proofs.Common.{◌≡◌, ℕ, suc, List, ◌∷◌, drop, length, subst, refl, Some}
use Rattle.std.specs.Prelude.{Contains}
use Rattle.lr1_theory.proofs.Types.{NonterminalString, Production, Symbol, Token}
use Rattle.lalrpop_grammar.specs.declared.repr.Symbol.TheVariants.{Nonterminal, Terminal}
use Rattle.lalrpop_grammar.specs.Words.{IsOnNoRightSide, Action, Shift, Reduce, IsLALR1, IsLalrAction, Contents, state_after, ReducesFinished, HasRightItems}
use Rattle.lalrpop_grammar.specs.Words.{Allows, in_kernel, items_of, AreClosed, IsReached, at_zero, IsCarried, eof_at_start, over, first_of_rest, through_rest}
use Rattle.lalrpop_grammar.specs.Words.{AreChecked, AreLr0, to_parent, behind_parent, of_start, IsLaneToken, HoldLaneTokens}
use Rattle.lalrpop_grammar.specs.states.States.{Reduction}
use Rattle.lalrpop_grammar.specs.conflicts.Conflicts.{HasNoConflict}
use Rattle.lalrpop_grammar.specs.closures.Closures.{over_edge}
use Rattle.lalrpop_grammar.specs.lanes.Lanes.{over_edge as back_over_edge}
use Rattle.lalrpop_collections.proofs.theory.lists.Lists.{grown, place_contains}
use Rattle.lalrpop_grammar.proofs.theory.states.RightStates.{edges_awaited, reductions_valid, one_no_conflict}
use Rattle.lr1_theory.proofs.theory.closures.Closures.{holds_expanded, right_items, reached_live}
use Rattle.lr1_theory.proofs.theory.lanes.Lanes.{traced_back, given_there, lane_tokens}

module _ (g : List Production) (start : NonterminalString) (states : ℕ → Contents) (closed : AreClosed g start states) where
  -- a state to which a token is carried is reached
  carried_reached : {n : ℕ} {p : Production} {dot : ℕ} {t : Token} → IsCarried g start states n p dot t → IsReached states n
  carried_reached (eof_at_start p h e) = at_zero
  carried_reached (over m x after c e k) = over_edge m x (carried_reached c) e
  carried_reached (first_of_rest q after r i e h f) = r
  carried_reached (through_rest q after c e h n) = carried_reached c

  -- a reached state holds the productions of each nonterminal after a dot, with the dot at the
  -- start
  expands_in : {n : ℕ} → IsReached states n → (p q : Production) (dot : ℕ) (after : List Symbol) → items_of states n p dot → drop dot p.symbols ≡ Nonterminal q.nonterminal ∷ after → Contains g q → items_of states n q 0
  expands_in {n} r p q dot after i e h =
      let v = reached_live g start states closed r in
      holds_expanded g start states closed (grown v.0) n v.2 p q dot after i e h

  -- a state holds each dotted production to which a token is carried there
  carried_item : {n : ℕ} {p : Production} {dot : ℕ} {t : Token} → IsCarried g start states n p dot t → items_of states n p dot
  carried_item (eof_at_start p h e) = (closed.first p 0).1 (in_kernel (refl, h, e))
  carried_item (over {n} {p} {dot} m x after c e k) = (closed.next n m x e p (suc dot)).1 (in_kernel (record { before = dot; after = after; moved = refl; item = carried_item c; behind = k }))
  carried_item (first_of_rest {p = p} {dot = dot} q after r i e h f) = expands_in r p q dot after i e h
  carried_item (through_rest {p = p} {dot = dot} q after c e h n) = expands_in (carried_reached c) p q dot after (carried_item c) e h

  -- tracing back finds each token that is carried
  pub carried_traced : {n : ℕ} {p : Production} {dot : ℕ} {t : Token} → IsCarried g start states n p dot t → IsLaneToken g start states n p dot t
  carried_traced (eof_at_start p h e) = given_there g start states (of_start 0 p e)
  carried_traced (over {n} {p} {dot} m x after c e k) = traced_back g start states (back_over_edge n m p dot x after e k) (carried_traced c)
  carried_traced (first_of_rest {n} {p} {dot} {t} q after r i e h f) = given_there g start states (behind_parent n q p dot after t i e f)
  carried_traced (through_rest {n} {p} {dot} q after c e h k) = traced_back g start states (to_parent n q p dot after (carried_item c) e k) (carried_traced c)

  -- the lane tables of an LALR(1) grammar pass the check
  pub lanes_checked : AreLr0 g start states → ((n : ℕ) → ReducesFinished (states n)) → ((n : ℕ) (r : Reduction) → Contains (states n).reductions r → IsReached states n) → IsOnNoRightSide g start → IsLALR1 g start → HoldLaneTokens g start states → AreChecked g start states
  lanes_checked lr0 reductions reached alone lalr holds = record {
    closed = closed;
    reductions = reductions;
    carried = λ n r t c k. (holds n r c t).1 (carried_traced k);
    no_conflict = none;
  }
    where
      -- an action that a state allows on a token is an LALR action of its prefix
      allowed : (n : ℕ) (u : List Symbol) → state_after states u ≡ Some n → (t : Token) (a : Action) → Allows (states n) t a → IsLalrAction g start u t a
      allowed n u at t (Shift x) h = (h.0, (edges_awaited (right_items g start states closed reductions u n at) (Terminal x)).0 h.1)
      allowed n u at t (Reduce p) h =
          let right : HasRightItems g start u (states n) = right_items g start states closed reductions u n at in
          let k : IsLaneToken g start states n p (length p.symbols) t = subst (λ (q : Production). IsLaneToken g start states n q (length q.symbols) t) h.2 ((holds n h.0 h.1 t).0 h.3) in
          (lane_tokens g start states lr0 alone u n p (length p.symbols) t at ((reductions_valid right p).0 (h.0, h.1, h.2))).0 k

      -- no state has a conflict, whether it has a reduction or not
      none : (n : ℕ) → HasNoConflict (states n)
      none n = record {
        shifts = λ x m r e c h. (with_reduction n r c).shifts x m r e c h;
        reductions = λ i j r q t l e f h k. (with_reduction n r (place_contains (states n).reductions i r e)).reductions i j r q t l e f h k;
      }
        where
          with_reduction : (n : ℕ) (r : Reduction) → Contains (states n).reductions r → HasNoConflict (states n)
          with_reduction n r c =
              let v = reached_live g start states closed (reached n r c) in
              one_no_conflict (states n) (reductions n).once (λ t a b h k. lalr v.0 v.1 t a b (allowed n v.0 v.2 t a h) (allowed n v.0 v.2 t b k))
