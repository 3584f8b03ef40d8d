-- Tracing back over LR(0) states finds exactly the LALR tokens, if the start symbol is on no right
-- side. One direction is by induction on the derivation that an item is valid, and the other on the
-- steps back.
use Rattle.std.proofs.Common.{◌≡◌, ℕ, suc, inl, inr, ◌↔◌, List, [], ◌∷◌, ◌++◌, drop, length, sym, subst, refl, ap, ◌∙◌, Some}
use Rattle.lr1_theory.proofs.Types.{NonterminalString, Production, Symbol, Token}
use Rattle.lalrpop_grammar.specs.declared.repr.Symbol.TheVariants.{Nonterminal, Terminal}
use Rattle.lalrpop_grammar.specs.Words.{IsOnNoRightSide, IsLALR1, IsLalrAction, Action, Shift, Reduce, IsValidAction, Valid, shifts, ValidToken, at_start, kept}
use Rattle.lalrpop_grammar.specs.Words.{begins_behind, passed_on, IsLive, IsLalrToken, Contents, state_after, Allows, HasRightItems, AreFaithful, AreLr0}
use Rattle.lalrpop_grammar.specs.Words.{LeadsBack, to_parent, behind_parent, of_start, IsTracedTo, itself, back, IsLaneToken, HoldLaneTokens}
use Rattle.lalrpop_grammar.specs.lanes.Lanes.{over_edge, Gives}
use Rattle.lalrpop_collections.proofs.theory.lists.Lists.{same_last, same_some}
use Rattle.lalrpop_grammar.proofs.theory.closures.Valid.{valid, of_grammar, at_the_start, awaited_live}
use Rattle.lalrpop_grammar.proofs.theory.states.RightStates.{edges_awaited, reductions_valid}
use Rattle.lalrpop_grammar.proofs.theory.runs.Steps.{state_from-more}
use Rattle.lalrpop_grammar.proofs.theory.runs.Sentences.{contains_behind}

-- the dotted production is valid for the prefix without its last symbol, which is after the dot
pub record Shifted (g : List Production) (start : NonterminalString) (u : List Symbol) (x : Symbol) (p : Production) (dot : ℕ) : Type 0 where
  pub after : List Symbol
  pub valid : Valid g start u p dot
  pub behind : drop dot p.symbols ≡ x ∷ after

-- a valid dotted production whose dot is past the start was shifted over the last symbol
pub unshift : {g : List Production} {start : NonterminalString} {w : List Symbol} {p : Production} {dot : ℕ} (u : List Symbol) (x : Symbol) → w ≡ u ++ x ∷ [] → Valid g start w p (suc dot) → Shifted g start u x p dot
unshift {g} {start} {dot = dot} u x e (shifts {u = v} {p = p} y after h k) =
    let same = same_last v u e in
    record { after = after; valid = subst (λ l. Valid g start l p dot) same.0 h; behind = k ∙ ap (λ z. z ∷ after) same.1 }

-- a lane token after a step back is a lane token before it
pub traced_back : (g : List Production) (start : NonterminalString) (states : ℕ → Contents) {s r : ℕ} {p q : Production} {dot e : ℕ} {t : Token} → LeadsBack g states s p dot r q e → IsLaneToken g start states r q e t → IsLaneToken g start states s p dot t
traced_back g start states b k = (k.0, record { production = (k.1).production; index = (k.1).index; traced = back b (k.1).traced; gives = (k.1).gives })

-- a token that a pair gives is a lane token of it
pub given_there : (g : List Production) (start : NonterminalString) (states : ℕ → Contents) {s : ℕ} {p : Production} {dot : ℕ} {t : Token} → Gives g start states s p dot t → IsLaneToken g start states s p dot t
given_there g start states {s} {p} {dot} h = (s, record { production = p; index = dot; traced = itself; gives = h })

module _ (g : List Production) (start : NonterminalString) (states : ℕ → Contents) (lr0 : AreLr0 g start states) where
  -- the state after a live prefix has the right items for it
  pub items_at : (u : List Symbol) (n : ℕ) → IsLive g start u → state_after states u ≡ Some n → HasRightItems g start u (states n)
  items_at u n l e =
      let r = lr0.each u l in
      subst (λ k. HasRightItems g start u (states k)) (same_some (sym r.after ∙ e)) r.right

  -- a prefix is live if a dotted production is valid for it
  pub valid_live : {u : List Symbol} {p : Production} {dot : ℕ} → Valid g start u p dot → IsLive g start u
  valid_live {p = p} {dot = dot} v = inr (p, dot, v)

  -- tracing back finds each valid token
  pub token_traced : {u : List Symbol} {p : Production} {dot : ℕ} {t : Token} → ValidToken g start u p dot t → (s : ℕ) → state_after states u ≡ Some s → IsLaneToken g start states s p dot t
  token_traced (at_start p h e) s at = given_there g start states (of_start s p e)
  token_traced (kept {u} {p} {dot} x after v e) s at =
      let l = valid_live (valid v) in
      let r = lr0.each u l in
      let m = (edges_awaited r.right x).1 (record { production = p; dot = dot; after = after; valid = valid v; behind = e }) in
      let to : m.0 ≡ s = same_some (sym (state_from-more states 0 u x r.after m.1) ∙ at) in
      traced_back g start states (over_edge r.number s p dot x after (m.1 ∙ ap (λ k. Some k) to) e) (token_traced v r.number r.after)
  token_traced (begins_behind {u} {p} {dot} {t} q after v e h f) s at =
      given_there g start states (behind_parent s q p dot after t (((items_at u s (valid_live v) at).items p dot).1 v) e f)
  token_traced (passed_on {u} {p} {dot} q after v e h n) s at =
      traced_back g start states (to_parent s q p dot after (((items_at u s (valid_live (valid v)) at).items p dot).1 (valid v)) e n) (token_traced v s at)

  -- the token is valid for some prefix that leads to the state
  pub record IsSomewhere (s : ℕ) (p : Production) (dot : ℕ) (t : Token) : Type 0 where
    pub prefix : List Symbol
    pub after : state_after states prefix ≡ Some s
    pub token : ValidToken g start prefix p dot t

  -- a token that a pair gives is valid there; Eof is given in state 0 alone, after the empty prefix
  given_token : IsOnNoRightSide g start → {s : ℕ} {p : Production} {dot : ℕ} {t : Token} → Gives g start states s p dot t → (u : List Symbol) → state_after states u ≡ Some s → Valid g start u p dot → IsSomewhere s p dot t
  given_token alone (behind_parent s p q dot after t h e f) u at v =
      let r = items_at u s (valid_live v) at in
      record { prefix = u; after = at; token = begins_behind p after ((r.items q dot).0 h) e (of_grammar v) f }
  given_token alone (of_start s p e) u at v = elim (at_the_start v) [
    | inl z ↦ record { prefix = []; after = ap (state_after states) (sym z.0) ∙ at; token = at_start p (of_grammar v) e }
    | inr a ↦ absurd (alone a.production (of_grammar a.valid) (contains_behind a.dot a.production.symbols (Nonterminal start) a.after (a.behind ∙ ap (λ b. Nonterminal b ∷ a.after) e)))
  ]

  -- a token that is given by a pair to which a pair leads back is valid for that pair
  pub traced_token : IsOnNoRightSide g start → {s n : ℕ} {p k : Production} {dot d : ℕ} {t : Token} → IsTracedTo g states s p dot n k d → Gives g start states n k d t → (u : List Symbol) → state_after states u ≡ Some s → Valid g start u p dot → IsSomewhere s p dot t
  traced_token alone itself given u at v = given_token alone given u at v
  traced_token alone (back (to_parent s p q dot after h e n) k) given u at v =
      let r = items_at u s (valid_live v) at in
      let x = traced_token alone k given u at ((r.items q dot).0 h) in
      record { prefix = x.prefix; after = x.after; token = passed_on p after x.token e (of_grammar v) n }
  traced_token alone (back (over_edge r s p dot x after h e) k) given u at v =
      let o = lr0.only r s x h in
      let rr = items_at o.0 r o.1 o.2 in
      let more : state_after states (o.0 ++ x ∷ []) ≡ Some s = state_from-more states 0 o.0 x o.2 h in
      let live : IsLive g start (o.0 ++ x ∷ []) = awaited_live ((edges_awaited rr x).0 (s, h)) in
      let there : Valid g start (o.0 ++ x ∷ []) p (suc dot) = ((items_at (o.0 ++ x ∷ []) s live more).items p (suc dot)).0 (((items_at u s (valid_live v) at).items p (suc dot)).1 v) in
      let z = unshift o.0 x refl there in
      let y = traced_token alone k given o.0 o.2 z.valid in
      record { prefix = y.prefix ++ x ∷ []; after = state_from-more states 0 y.prefix x y.after h; token = kept x after y.token e }

  -- tracing back finds exactly the LALR tokens
  pub lane_tokens : IsOnNoRightSide g start → (u : List Symbol) (s : ℕ) (p : Production) (dot : ℕ) (t : Token) → state_after states u ≡ Some s → Valid g start u p dot → IsLaneToken g start states s p dot t ↔ IsLalrToken g start u p dot t
  lane_tokens alone u s p dot t at v = (
    λ k.
        let y = traced_token alone (k.1).traced (k.1).gives u at v in
        let live : IsLive g start y.prefix = valid_live (valid y.token) in
        record {
          prefix = y.prefix;
          live = live;
          same = λ q e. (
            λ h. ((items_at y.prefix s live y.after).items q e).0 (((items_at u s (valid_live v) at).items q e).1 h),
            λ h. ((items_at u s (valid_live v) at).items q e).0 (((items_at y.prefix s live y.after).items q e).1 h),
          );
          valid = y.token;
        },
    λ l.
        let r = lr0.each l.prefix l.live in
        token_traced l.valid s (r.after ∙ ap (λ n. Some n) (sym (lr0.shared u l.prefix s r.number (valid_live v) l.live l.same at r.after))),
  )

  -- LR(0) states whose reductions hold their lane tokens are faithful if the grammar is LALR(1)
  pub lanes_faithful : IsOnNoRightSide g start → IsLALR1 g start → HoldLaneTokens g start states → AreFaithful g start states
  lanes_faithful alone lalr holds u live =
      let s = lr0.each u live in
      let h = s.right in
      record {
        number = s.number;
        after = s.after;
        right = record {
          contents = h;
          every = every s.number h s.after;
          one = λ t stands a b j k. lalr u live t a b (is_lalr s.number h s.after t a j) (is_lalr s.number h s.after t b k);
        };
      }
    where
      every : (n : ℕ) → HasRightItems g start u (states n) → state_after states u ≡ Some n → (t : Token) (a : Action) → IsValidAction g start u t a → Allows (states n) t a
      every n h at t (Shift x) v = (v.0, (edges_awaited h (Terminal x)).1 v.1)
      every n h at t (Reduce p) v =
          let f = (reductions_valid h p).1 (valid v) in
          let k : IsLaneToken g start states n p (length p.symbols) t = token_traced v n at in
          (f.0, f.1, f.2, (holds n f.0 f.1 t).1 (subst (λ (q : Production). IsLaneToken g start states n q (length q.symbols) t) (sym f.2) k))

      is_lalr : (n : ℕ) → HasRightItems g start u (states n) → state_after states u ≡ Some n → (t : Token) (a : Action) → Allows (states n) t a → IsLalrAction g start u t a
      is_lalr n h at t (Shift x) v = (v.0, (edges_awaited h (Terminal x)).0 v.1)
      is_lalr n h at t (Reduce p) v =
          let k : IsLaneToken g start states n p (length p.symbols) t = subst (λ (q : Production). IsLaneToken g start states n q (length q.symbols) t) v.2 ((holds n v.0 v.1 t).0 v.3) in
          (lane_tokens alone u n p (length p.symbols) t at ((reductions_valid h p).0 (v.0, v.1, v.2))).0 k
