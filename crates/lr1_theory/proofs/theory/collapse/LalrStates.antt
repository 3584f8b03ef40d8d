-- LR(0) states whose reductions hold their LALR tokens are faithful exactly if the grammar is
-- LALR(1). The proofs use the actions that such a state allows.
use Rattle.std.proofs.Common.{◌≡◌, ◌↔◌, ℕ, List, sym, subst, ◌∙◌, length, Some}
use Rattle.lr1_theory.proofs.Types.{NonterminalString, Production, Symbol, Token}
use Rattle.lalrpop_grammar.specs.declared.repr.Symbol.TheVariants.{Terminal}
use Rattle.lalrpop_grammar.specs.Words.{IsLive, Action, Shift, Reduce, IsValidAction, IsLalrToken, IsLalrAction, IsLALR1, Contents, state_after, Allows}
use Rattle.lalrpop_grammar.specs.Words.{HasRightItems, CanStandNext, AreFaithful, AreLr0, HoldLalrTokens}
use Rattle.lalrpop_grammar.proofs.theory.closures.Valid.{valid}
use Rattle.lalrpop_grammar.proofs.theory.states.RightStates.{edges_awaited, reductions_valid, token_stands, no_conflict_one, one_no_conflict}
use Rattle.lalrpop_collections.proofs.theory.lists.Lists.{same_some}
use Rattle.lalrpop_grammar.specs.conflicts.Conflicts.{HasNoConflict}

module _ (g : List Production) (start : NonterminalString) where
  -- each valid action is one of the LALR actions
  pub action_lalr : (u : List Symbol) → IsLive g start u → (t : Token) (a : Action) → IsValidAction g start u t a → IsLalrAction g start u t a
  action_lalr u live t (Shift x) v = v
  action_lalr u live t (Reduce p) v = record { prefix = u; live = live; same = λ q d. (λ h. h, λ h. h); valid = v }

module _ (g : List Production) (start : NonterminalString) (states : ℕ → Contents) (lr0 : AreLr0 g start states) where
  -- if the states hold their LALR tokens, the state after a prefix allows exactly the LALR actions
  pub allows_lalr : HoldLalrTokens g start states → (u : List Symbol) (n : ℕ) → IsLive g start u → state_after states u ≡ Some n → HasRightItems g start u (states n) → (t : Token) (a : Action) → Allows (states n) t a ↔ IsLalrAction g start u t a
  allows_lalr holds u n live at h t (Shift x) = (λ v. (v.0, (edges_awaited h (Terminal x)).0 v.1), λ v. (v.0, (edges_awaited h (Terminal x)).1 v.1))
  allows_lalr holds u n live at h t (Reduce p) = (
    λ v. subst (λ (q : Production). IsLalrToken g start u q (length q.symbols) t) v.2 ((holds u n live at v.0 v.1 t).0 v.3),
    λ l.
        let f = (reductions_valid h p).1 ((l.same p (length p.symbols)).1 (valid l.valid)) in
        (f.0, f.1, f.2, (holds u n live at f.0 f.1 t).1 (subst (λ (q : Production). IsLalrToken g start u q (length q.symbols) t) (sym f.2) l)),
  )

  -- if the grammar is LALR(1), the states are faithful
  pub lalr_faithful : HoldLalrTokens g start states → IsLALR1 g start → AreFaithful g start states
  lalr_faithful holds lalr u live =
      let s = lr0.each u live in
      let h = s.right in
      record {
        number = s.number;
        after = s.after;
        right = record {
          contents = h;
          every = λ t a v. (allows_lalr holds u s.number live s.after h t a).1 (action_lalr g start u live t a v);
          one = λ t stands a b j k. lalr u live t a b ((allows_lalr holds u s.number live s.after h t a).0 j) ((allows_lalr holds u s.number live s.after h t b).0 k);
        };
      }

  -- the token of an LALR action can be the next token
  lalr_stands : (u : List Symbol) (t : Token) (a : Action) → IsLalrAction g start u t a → CanStandNext t
  lalr_stands u t (Shift x) h = subst CanStandNext (sym h.0) tt
  lalr_stands u t (Reduce p) h = token_stands h.valid

  -- if the states are faithful, the grammar is LALR(1)
  pub faithful_lalr : HoldLalrTokens g start states → AreFaithful g start states → IsLALR1 g start
  faithful_lalr holds f u live t a b j k =
      let s = lr0.each u live in
      let r = f u live in
      let e : r.number ≡ s.number = same_some (sym r.after ∙ s.after) in
      (r.right).one t (lalr_stands u t a j) a b
      (subst (λ n. Allows (states n) t a) (sym e) ((allows_lalr holds u s.number live s.after s.right t a).1 j))
      (subst (λ n. Allows (states n) t b) (sym e) ((allows_lalr holds u s.number live s.after s.right t b).1 k))

  -- if no state after a live prefix has a conflict, the grammar is LALR(1)
  pub no_conflict_lalr : HoldLalrTokens g start states → ((u : List Symbol) (n : ℕ) → IsLive g start u → state_after states u ≡ Some n → HasNoConflict (states n)) → IsLALR1 g start
  no_conflict_lalr holds none u live t a b j k =
      let s = lr0.each u live in
      no_conflict_one (states s.number) (none u s.number live s.after) t a b ((allows_lalr holds u s.number live s.after s.right t a).1 j) ((allows_lalr holds u s.number live s.after s.right t b).1 k)

  -- if the grammar is LALR(1), no state after a live prefix has a conflict
  pub lalr_no_conflict : HoldLalrTokens g start states → IsLALR1 g start → (u : List Symbol) (n : ℕ) → IsLive g start u → state_after states u ≡ Some n → HasNoConflict (states n)
  lalr_no_conflict holds lalr u n live at =
      let s = lr0.each u live in
      let right : HasRightItems g start u (states n) = subst (λ k. HasRightItems g start u (states k)) (same_some (sym s.after ∙ at)) s.right in
      one_no_conflict (states n) (right.reductions).once (λ t a b h k. lalr u live t a b ((allows_lalr holds u n live at right t a).0 h) ((allows_lalr holds u n live at right t b).0 k))
