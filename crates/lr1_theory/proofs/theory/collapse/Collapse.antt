-- If canonical states with the same dotted productions are merged, they are LR(0) states that hold
-- their LALR tokens. A prefix leads to the merged state of the state to which it led.
use Rattle.std.proofs.Common.{◌≡◌, ℕ, List, length, sym, subst, ap, ◌∙◌, Some}
use Rattle.lr1_theory.proofs.Types.{NonterminalString, Production, Symbol, Token}
use Rattle.lalrpop_grammar.specs.Words.{HaveSameItems, IsLalrToken, Contents, state_after, IsBehindDot, LeadsOverDots, HasRightItems, items_of, IsReached}
use Rattle.lalrpop_grammar.specs.Words.{AreCanonical, HoldsInGroup, LeadsInGroup, IsCollapse, AreLr0, HoldLalrTokens}
use Rattle.lalrpop_collections.proofs.theory.lists.Lists.{Grown, from_nothing, more, grown, same_some}
use Rattle.lalrpop_grammar.proofs.theory.runs.Steps.{state_from-more}
use Rattle.lalrpop_grammar.proofs.theory.closures.Valid.{valid}
use Rattle.lalrpop_grammar.proofs.theory.states.RightStates.{reductions_valid}
use Rattle.lr1_theory.proofs.theory.closures.Closures.{state_from-last, items_valid, reached_at, reached_live, live_state}
use Rattle.lr1_theory.proofs.theory.states.Lr0.{held_alike}
use Rattle.lr1_theory.proofs.theory.closures.Canonical.{right_at, tokens_exact}

module _ (g : List Production) (start : NonterminalString) (before : ℕ → Contents) (tokens : ℕ → Production → ℕ → Token → Type 0) (canonical : AreCanonical g start before tokens) (group : ℕ → ℕ) (after : ℕ → Contents) (collapse : IsCollapse group before after) where
  -- a prefix leads to the merged state of the state to which it led
  grouped : {u : List Symbol} → Grown u → (n : ℕ) → state_after before u ≡ Some n → state_after after u ≡ Some (group n)
  grouped from_nothing n e = ap (λ k. Some k) (sym collapse.first ∙ ap group (same_some e))
  grouped (more {l = u} x k) n e =
      let m = state_from-last before 0 u x n e in
      state_from-more after 0 u x (grouped k m.0 m.1) (collapse.edges m.0 n x (reached_at g start before canonical.closed k m.0 m.1) m.2)

  -- the symbols that lead from a merged state are exactly those after its dots
  edges_at : (n : ℕ) → IsReached before n → LeadsOverDots (after (group n))
  edges_at n r x = (
    λ h. to (collapse.only (group n) h.0 x h.1),
    λ b.
        let e = (canonical.closed.edges n x).1 (record { production = b.production; dot = b.dot; after = b.after; item = (collapse.items n r b.production b.dot).0 b.item; behind = b.behind }) in
        (group e.0, collapse.edges n e.0 x r e.1),
  )
    where
      to : {m : ℕ} → LeadsInGroup group before (group n) x m → IsBehindDot (after (group n)) x
      to l =
          let b = (canonical.closed.edges l.state x).0 (l.to, l.edge) in
          record {
            production = b.production;
            dot = b.dot;
            after = b.after;
            item = subst (λ k. items_of after k b.production b.dot) l.same ((collapse.items l.state l.reached b.production b.dot).1 b.item);
            behind = b.behind;
          }

  -- a merged state has the right items for each prefix that led to a state that is merged into it
  right_grouped : (u : List Symbol) (n : ℕ) → state_after before u ≡ Some n → HasRightItems g start u (after (group n))
  right_grouped u n at =
      let r = reached_at g start before canonical.closed (grown u) n at in
      record {
        items = λ p dot. (
          λ i. (items_valid g start before canonical.closed u n at p dot).0 ((collapse.items n r p dot).0 i),
          λ v. (collapse.items n r p dot).1 ((items_valid g start before canonical.closed u n at p dot).1 v),
        );
        edges = edges_at n r;
        reductions = collapse.reductions (group n);
      }

  -- prefixes with the same valid dotted productions lead to the same merged state
  same_group : (u v : List Symbol) (n m : ℕ) → state_after before u ≡ Some n → state_after before v ≡ Some m → HaveSameItems g start u v → group n ≡ group m
  same_group u v n m e f same =
      collapse.one n m (reached_at g start before canonical.closed (grown u) n e) (reached_at g start before canonical.closed (grown v) m f) (held_alike g start before canonical.closed u v n m e f same)

  -- the merged states are LR(0) states
  pub collapsed_lr0 : AreLr0 g start after
  collapsed_lr0 = record {
    each = λ u live.
        let s = live_state g start before canonical.closed u live in
        record { number = group s.0; after = grouped (grown u) s.0 s.1; right = right_grouped u s.0 s.1 };
    shared = λ u v n m lu lv same e f.
        let s = live_state g start before canonical.closed u lu in
        let z = live_state g start before canonical.closed v lv in
        same_some (sym e ∙ grouped (grown u) s.0 s.1) ∙ same_group u v s.0 z.0 s.1 z.1 same ∙ same_some (sym (grouped (grown v) z.0 z.1) ∙ f);
    only = λ n m x e.
        let l = collapse.only n m x e in
        let v = reached_live g start before canonical.closed l.reached in
        (v.0, v.1, grouped (grown v.0) l.state v.2 ∙ ap (λ k. Some k) l.same);
  }

  -- a token that a reduction holds in a merged state is an LALR token
  group_lalr : (u : List Symbol) (n : ℕ) → state_after before u ≡ Some n → (p : Production) (t : Token) → HoldsInGroup group before (group n) p t → IsLalrToken g start u p (length p.symbols) t
  group_lalr u n at p t h =
      let v = reached_live g start before canonical.closed h.reached in
      let r = reached_at g start before canonical.closed (grown u) n at in
      let k : tokens h.state p (length p.symbols) t = subst (λ (q : Production). tokens h.state q (length q.symbols) t) h.by_p ((canonical.holds h.state h.reduction t h.there).0 h.holds) in
      record {
        prefix = v.0;
        live = v.1;
        same = λ q d. (
          λ w. (items_valid g start before canonical.closed v.0 h.state v.2 q d).0 ((collapse.items h.state h.reached q d).0 (subst (λ i. items_of after i q d) (sym h.same) ((collapse.items n r q d).1 ((items_valid g start before canonical.closed u n at q d).1 w)))),
          λ w. (items_valid g start before canonical.closed u n at q d).0 ((collapse.items n r q d).0 (subst (λ i. items_of after i q d) h.same ((collapse.items h.state h.reached q d).1 ((items_valid g start before canonical.closed v.0 h.state v.2 q d).1 w)))),
        );
        valid = (tokens_exact g start before tokens canonical v.0 h.state v.2 p (length p.symbols) t).0 k;
      }

  -- a reduction of a merged state holds each of its LALR tokens
  lalr_group : (u : List Symbol) (n : ℕ) → state_after before u ≡ Some n → (p : Production) (t : Token) → IsLalrToken g start u p (length p.symbols) t → HoldsInGroup group before (group n) p t
  lalr_group u n at p t l =
      let s = live_state g start before canonical.closed l.prefix l.live in
      let f = (reductions_valid (right_at g start before tokens canonical l.prefix s.0 s.1) p).1 (valid l.valid) in
      let k : tokens s.0 p (length p.symbols) t = (tokens_exact g start before tokens canonical l.prefix s.0 s.1 p (length p.symbols) t).1 l.valid in
      record {
        state = s.0;
        reached = reached_at g start before canonical.closed (grown l.prefix) s.0 s.1;
        same = sym (same_group u l.prefix n s.0 at s.1 l.same);
        reduction = f.0;
        there = f.1;
        by_p = f.2;
        holds = (canonical.holds s.0 f.0 t f.1).1 (subst (λ (q : Production). tokens s.0 q (length q.symbols) t) (sym f.2) k);
      }

  -- the merged states hold their LALR tokens
  pub collapsed_tokens : HoldLalrTokens g start after
  collapsed_tokens u k live at r c t =
      let s = live_state g start before canonical.closed u live in
      let same : group s.0 ≡ k = same_some (sym (grouped (grown u) s.0 s.1) ∙ at) in (
        λ h. group_lalr u s.0 s.1 r.production t (subst (λ i. HoldsInGroup group before i r.production t) (sym same) ((collapse.holds k r t c).0 h)),
        λ l. (collapse.holds k r t c).1 (subst (λ i. HoldsInGroup group before i r.production t) same (lalr_group u s.0 s.1 r.production t l)),
      )
