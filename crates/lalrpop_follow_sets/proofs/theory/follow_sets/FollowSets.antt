-- The lanes of a reduction find exactly its lookahead set: each step back of a lane is a step of
-- follow sets, and the other way round.
use Rattle.std.proofs.Common.{◌≡◌, ◌↔◌, ℕ, zero, suc, ◌<◌, ◌≤◌, List, [], ◌∷◌, take, drop, length, refl, sym, ◌∙◌, ap, subst, arith, Some}
use Rattle.std.specs.Prelude.{Contains}
use Rattle.lalrpop_base.specs.Words.{Bits, Contents, state_from, to_parent, behind_parent, of_start, IsTracedTo, itself, back, IsLaneToken, Rules, Shift, Reduce}
use Rattle.lalrpop_grammar.specs.lanes.Lanes.{over_edge, Gives}
use Rattle.lalrpop_follow_sets.proofs.Types.{NonterminalString, Production, State, TerminalString, Token}
use Rattle.lalrpop_grammar.specs.declared.lookahead.token.Token.TheVariants.{Eof, Terminal as TokenOf}
use Rattle.lalrpop_grammar.specs.declared.repr.Symbol.TheVariants.{Nonterminal}
use Rattle.lalrpop_collections.proofs.theory.lists.Lists.{take_past, take_all, same_some}
use Rattle.lalrpop_grammar.proofs.theory.runs.Steps.{state_from-more}
use Rattle.lr1_theory.proofs.theory.closures.Closures.{state_from-last}
use Rattle.lr1_theory.proofs.theory.lanes.Lanes.{traced_back, given_there}
use Rattle.lalrpop_follow_sets.specs.Words.{HasLaneBits, IsResolved, LanesMeet}
use Rattle.lalrpop_follow_sets.specs.Words.{LeadsOver, FollowsAtOnce, is_first_behind, ends_input, InFollow, at_once, included, IsLookahead, HasLookaheadBits, HoldsLookaheads}

-- the first 0 members of a list are the empty list
pub take_none : {A : Type 0} (xs : List A) → take 0 xs ≡ []
take_none [] = refl
take_none (x ∷ xs) = refl

-- a dot that is not at the end has a symbol after it
pub symbol_behind : {A : Type 0} (dot : ℕ) (xs : List A) → dot < length xs → (x : A) × (after : List A) × (drop dot xs ≡ x ∷ after)
symbol_behind dot [] l = absurd (omega (arith, l))
symbol_behind zero (x ∷ xs) l = (x, xs, refl)
symbol_behind (suc dot) (x ∷ xs) l = symbol_behind dot xs (omega (arith, l))

-- a dot with a symbol after it is within the list
pub within : {A : Type 0} (dot : ℕ) (xs : List A) {x : A} {after : List A} → drop dot xs ≡ x ∷ after → dot ≤ length xs
within zero xs e = omega arith
within (suc dot) [] e = cc
within (suc dot) (y ∷ xs) e = omega (arith, within dot xs e)

-- the symbols after the one after a dot are those after the next dot
pub rest_behind : {A : Type 0} (dot : ℕ) (xs after : List A) (x : A) → drop dot xs ≡ x ∷ after → after ≡ drop (suc dot) xs
rest_behind zero [] after x e = cc
rest_behind zero (y ∷ xs) after x e = cc
rest_behind (suc dot) [] after x e = cc
rest_behind (suc dot) (y ∷ xs) after x e = rest_behind dot xs after x e

module _ (g : List Production) (start : NonterminalString) (states : ℕ → Contents) where
  -- a token is in the follow set of a production's nonterminal in a state from which the symbols
  -- before the dot lead here
  record FollowsFrom (s : ℕ) (p : Production) (dot : ℕ) (t : Token) : Type 0 where
    pub from : ℕ
    pub leads : LeadsOver states from (take dot p.symbols) s
    pub follows : InFollow g start states from p.nonterminal t

  -- a token that follows a production's nonterminal here follows from the dot at the start
  begins_here : {s : ℕ} {p : Production} {t : Token} → InFollow g start states s p.nonterminal t → FollowsFrom s p 0 t
  begins_here {s} {p} f = record { from = s; leads = ap (state_from states s) (take_none p.symbols); follows = f }

  given_follows : {s : ℕ} {p : Production} {dot : ℕ} {t : Token} → Gives g start states s p dot t → FollowsFrom s p dot t
  given_follows (behind_parent s p q dot after t h e f) = begins_here (at_once (is_first_behind s p.nonterminal q dot after t h e f))
  given_follows (of_start s p e) = begins_here (subst (λ (a : NonterminalString). InFollow g start states s a Eof) (sym e) (at_once (ends_input s)))

  -- if a lane leads from one place back to another that gives a token, the token follows from the
  -- first place
  traced_follows : {s n : ℕ} {p k : Production} {dot d : ℕ} {t : Token} → IsTracedTo g states s p dot n k d → Gives g start states n k d t → FollowsFrom s p dot t
  traced_follows itself given = given_follows given
  traced_follows (back (to_parent s p q dot after h e n) k) given =
      let f = traced_follows k given in
      begins_here (included (record { parent = q; dot = dot; after = after; item = h; behind = e; nullable = n; leads = f.leads; own = refl }) f.follows)
  traced_follows (back (over_edge r s p dot x after l e) k) given =
      let f = traced_follows k given in
      record { from = f.from; leads = ap (state_from states f.from) (take_past dot p.symbols e) ∙ state_from-more states f.from (take dot p.symbols) x f.leads l; follows = f.follows }

  -- a lane goes back over the symbols before the dot
  over_all : (r : ℕ) (p : Production) (t : Token) → IsLaneToken g start states r p 0 t → (dot s : ℕ) → dot ≤ length p.symbols → LeadsOver states r (take dot p.symbols) s → IsLaneToken g start states s p dot t
  over_all r p t h zero s within leads_over = subst (λ n. IsLaneToken g start states n p 0 t) (same_some (sym (ap (state_from states r) (take_none p.symbols)) ∙ leads_over)) h
  over_all r p t h (suc dot) s within leads_over =
      let x = symbol_behind dot p.symbols (omega (arith, within)) in
      let last = state_from-last states r (take dot p.symbols) x.0 s (sym (ap (state_from states r) (take_past dot p.symbols x.2)) ∙ leads_over) in
      traced_back g start states (over_edge last.0 s p dot x.0 x.1 last.2 x.2) (over_all r p t h dot last.0 (omega (arith, within)) last.1)

  -- a lane finds a token that follows a nonterminal at once, from the start of each production of
  -- this nonterminal
  given_at_once : {s : ℕ} {a : NonterminalString} {t : Token} → FollowsAtOnce g start states s a t → (p : Production) → p.nonterminal ≡ a → IsLaneToken g start states s p 0 t
  given_at_once (is_first_behind s a q dot after t h e f) p same = given_there g start states (behind_parent s p q dot after t h (e ∙ ap (λ (b : NonterminalString). Nonterminal b ∷ after) (sym same)) f)
  given_at_once (ends_input s) p same = given_there g start states (of_start s p same)

  follow_traced : {s : ℕ} {a : NonterminalString} {t : Token} → InFollow g start states s a t → (p : Production) → p.nonterminal ≡ a → IsLaneToken g start states s p 0 t
  follow_traced (at_once h) p same = given_at_once h p same
  follow_traced (included {r} {s} {a} {b} {t} i f) p same =
      traced_back g start states (to_parent s p i.parent i.dot i.after i.item (i.behind ∙ ap (λ (c : NonterminalString). Nonterminal c ∷ i.after) (sym same)) i.nullable)
      (over_all r i.parent t (follow_traced f i.parent i.own) i.dot s (within i.dot (i.parent).symbols i.behind) i.leads)

  -- the lane tokens of a production at its end are its lookahead set
  pub lane_lookahead : (s : ℕ) (p : Production) (t : Token) → IsLaneToken g start states s p (length p.symbols) t ↔ IsLookahead g start states s p t
  lane_lookahead s p t = (
    λ h.
        let f = traced_follows (h.1).traced (h.1).gives in
        record { from = f.from; leads = sym (ap (state_from states f.from) (take_all p.symbols)) ∙ f.leads; follows = f.follows },
    λ l. over_all l.from p t (follow_traced l.follows p refl) (length p.symbols) s (omega arith) (ap (state_from states l.from) (take_all p.symbols) ∙ l.leads),
  )

  -- ---- actions that share a token
  -- two finished items whose lookahead sets share a token
  pub reductions_meet : (n : ℕ) (p q : Production) (t : Token) → (p ≡ q → ⊥) → Contains (states n).items (p, length p.symbols) → Contains (states n).items (q, length q.symbols) → IsLookahead g start states n p t → IsLookahead g start states n q t → LanesMeet g start states n
  reductions_meet n p q t apart item_p item_q here there = record {
    first = Reduce p;
    second = Reduce q;
    apart = λ e. apart cc;
    token = t;
    here = (item_p, (lane_lookahead n p t).1 here);
    there = (item_q, (lane_lookahead n q t).1 there);
  }

  -- a shift, and a finished item with its terminal in the lookahead set
  pub shift_meets : (n m : ℕ) (x : TerminalString) (p : Production) → (states n).shift x ≡ Some m → Contains (states n).items (p, length p.symbols) → IsLookahead g start states n p (TokenOf x) → LanesMeet g start states n
  shift_meets n m x p edge item there = record {
    first = Shift x;
    second = Reduce p;
    apart = λ e. cc;
    token = TokenOf x;
    here = (refl, (m, edge));
    there = (item, (lane_lookahead n p (TokenOf x)).1 there);
  }

-- ---- resolved states
module _ (g : Rules) (start : NonterminalString) (states : ℕ → Contents) (s : ℕ) where
  -- the bits of a lookahead set are the bits of the lane tokens
  pub lookahead_bits : (set : Bits) (p : Production) → HasLookaheadBits g start states s set p → HasLaneBits g start states s set p
  lookahead_bits set p has_bits bit = (
    λ h. let found = (has_bits bit).0 h in (found.0, found.1, (lane_lookahead g.productions start states s p found.0).1 found.2),
    λ h. (has_bits bit).1 (h.0, h.1, (lane_lookahead g.productions start states s p h.0).0 h.2),
  )

  pub lookaheads_resolved : (state : State Bits) → HoldsLookaheads g start states s state → IsResolved g start states s state
  lookaheads_resolved state h = record { holds = λ r c. lookahead_bits r.0 r.1.now (h.holds r c); free = h.free }
