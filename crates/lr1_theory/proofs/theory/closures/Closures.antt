-- Closed states have exactly the valid dotted productions, and the valid tokens are carried over
-- their edges. So checked tables are faithful.
-- The proofs are by induction on the prefix and on the derivation that an item is valid.
use Rattle.std.proofs.Common.{◌≡◌, ℕ, suc, inl, inr, ◌↔◌, List, [], ◌∷◌, ◌++◌, drop, length, sym, subst, refl, ap, ◌∙◌, Option, Some, None}
use Rattle.std.specs.Prelude.{Contains}
use Rattle.lr1_theory.proofs.Types.{NonterminalString, Production, Symbol, Token}
use Rattle.lalrpop_grammar.specs.declared.repr.Symbol.TheVariants.{Nonterminal, Terminal}
use Rattle.lalrpop_grammar.specs.Words.{Valid, starts, shifts, expands, ValidToken, at_start, kept, begins_behind, passed_on, IsLive, Action, Shift, Reduce}
use Rattle.lalrpop_grammar.specs.Words.{IsValidAction, Contents, leads, onward, state_from, state_after, Allows, ReducesFinished, HasRightItems, HaveRightItems}
use Rattle.lalrpop_grammar.specs.Words.{AreFaithful, InClosure, in_kernel, expanded, IsAtStart, IsMoved, AreClosed, IsReached, at_zero, IsCarried, eof_at_start}
use Rattle.lalrpop_grammar.specs.Words.{over, first_of_rest, through_rest, items_of, AreChecked}
use Rattle.lalrpop_grammar.specs.closures.Closures.{over_edge}
use Rattle.lalrpop_collections.proofs.theory.lists.Lists.{Grown, from_nothing, more, grown, same_some, some≢none}
use Rattle.lalrpop_grammar.proofs.theory.closures.Valid.{valid, awaited_live}
use Rattle.lalrpop_grammar.proofs.theory.states.RightStates.{awaited_edges, edges_awaited, reductions_valid, no_conflict_one}
use Rattle.lalrpop_grammar.proofs.theory.runs.Steps.{state_from-more}

-- the last symbol of a list leads to the state after the list from the state before that symbol
pub state_from-last : (states : ℕ → Contents) (start : ℕ) (u : List Symbol) (x : Symbol) (n : ℕ) → state_from states start (u ++ x ∷ []) ≡ Some n → (m : ℕ) × (state_from states start u ≡ Some m) × (leads (states m) x ≡ Some n)
state_from-last states start [] x n e = (start, refl, go (leads (states start) x) e)
  where
    go : (o : Option ℕ) → onward o (λ k. Some k) ≡ Some n → o ≡ Some n
    go None k = absurd (some≢none (sym k))
    go (Some m) k = k
state_from-last states start (y ∷ u) x n e = go (leads (states start) y) e (λ k. state_from-last states k u x n)
  where
    go : (o : Option ℕ) → onward o (λ k. state_from states k (u ++ x ∷ [])) ≡ Some n → ((k : ℕ) → state_from states k (u ++ x ∷ []) ≡ Some n → (m : ℕ) × (state_from states k u ≡ Some m) × (leads (states m) x ≡ Some n)) → (m : ℕ) × (onward o (λ k. state_from states k u) ≡ Some m) × (leads (states m) x ≡ Some n)
    go None k more' = absurd (some≢none (sym k))
    go (Some m) k more' = more' m k

module _ (g : List Production) (start : NonterminalString) (states : ℕ → Contents) (closed : AreClosed g start states) where
  -- a dotted production of a state is valid for a prefix that leads to the state
  pub holds_valid : {u : List Symbol} → Grown u → (n : ℕ) → state_after states u ≡ Some n → (p : Production) (dot : ℕ) → items_of states n p dot → Valid g start u p dot
  holds_valid from_nothing n e p dot h = go ((closed.first p dot).0 (subst (λ k. items_of states k p dot) (sym (same_some e)) h))
    where
      go : {q : Production} {d : ℕ} → InClosure g (IsAtStart g start) q d → Valid g start [] q d
      go {q} (in_kernel k) = subst (Valid g start [] q) (sym k.0) (starts q k.1 k.2)
      go (expanded q after c k h') = expands q after (go c) k h'
  holds_valid (more {l = u} x k) n e p dot h =
      let m = state_from-last states 0 u x n e in
      go m.0 (holds_valid k m.0 m.1) ((closed.next m.0 n x m.2 p dot).0 h)
    where
      go : (m : ℕ) → ((q : Production) (d : ℕ) → items_of states m q d → Valid g start u q d) → {q : Production} {d : ℕ} → InClosure g (IsMoved (items_of states m) x) q d → Valid g start (u ++ x ∷ []) q d
      go m before {q} (in_kernel i) = subst (Valid g start (u ++ x ∷ []) q) (sym i.moved) (shifts x i.after (before q i.before i.item) i.behind)
      go m before (expanded q after c b h') = expands q after (go m before c) b h'

  -- a state holds the productions of each nonterminal after a dot, with the dot at the start
  pub holds_expanded : {u : List Symbol} → Grown u → (n : ℕ) → state_after states u ≡ Some n → (p q : Production) (dot : ℕ) (after : List Symbol) → items_of states n p dot → drop dot p.symbols ≡ Nonterminal q.nonterminal ∷ after → Contains g q → items_of states n q 0
  holds_expanded from_nothing n e p q dot after h b c =
      subst (λ k. items_of states k q 0) (same_some e) ((closed.first q 0).1 (expanded q after ((closed.first p dot).0 (subst (λ k. items_of states k p dot) (sym (same_some e)) h)) b c))
  holds_expanded (more {l = u} x k) n e p q dot after h b c =
      let m = state_from-last states 0 u x n e in
      (closed.next m.0 n x m.2 q 0).1 (expanded q after ((closed.next m.0 n x m.2 p dot).0 h) b c)

  -- if a dotted production is valid for a prefix, the prefix leads to a state that holds it
  pub valid_held : {u : List Symbol} {p : Production} {dot : ℕ} → Valid g start u p dot → (n : ℕ) × (state_after states u ≡ Some n) × items_of states n p dot
  valid_held (starts p h e) = (0, refl, (closed.first p 0).1 (in_kernel (refl, h, e)))
  valid_held (shifts {u} {p} {dot} x after v e) =
      let r = valid_held v in
      let m = (closed.edges r.0 x).1 (record { production = p; dot = dot; after = after; item = r.2; behind = e }) in
      (m.0, state_from-more states 0 u x r.1 m.1, (closed.next r.0 m.0 x m.1 p (suc dot)).1 (in_kernel (record { before = dot; after = after; moved = refl; item = r.2; behind = e })))
  valid_held (expands {u} {p} {dot} q after v e h) =
      let r = valid_held v in
      (r.0, r.1, holds_expanded (grown u) r.0 r.1 p q dot after r.2 e h)

  -- the dotted productions of the state after a prefix are exactly those that are valid for it
  pub items_valid : (u : List Symbol) (n : ℕ) → state_after states u ≡ Some n → (p : Production) (dot : ℕ) → items_of states n p dot ↔ Valid g start u p dot
  items_valid u n e p dot = (
    holds_valid (grown u) n e p dot,
    λ v. let r = valid_held v in subst (λ k. items_of states k p dot) (same_some (sym r.1 ∙ e)) r.2,
  )

  -- a state to which a list of symbols leads is reached
  pub reached_at : {u : List Symbol} → Grown u → (n : ℕ) → state_after states u ≡ Some n → IsReached states n
  reached_at from_nothing n e = subst (IsReached states) (same_some e) at_zero
  reached_at (more {l = u} x k) n e =
      let m = state_from-last states 0 u x n e in
      over_edge n x (reached_at k m.0 m.1) m.2

  -- a live prefix leads to each reached state
  pub reached_live : {n : ℕ} → IsReached states n → (u : List Symbol) × IsLive g start u × (state_after states u ≡ Some n)
  reached_live at_zero = ([], inl refl, refl)
  reached_live (over_edge {n} m x r e) =
      let v = reached_live r in
      (v.0 ++ x ∷ [], awaited_live ((awaited_edges (items_valid v.0 n v.2) (closed.edges n) x).0 (m, e)), state_from-more states 0 v.0 x v.2 e)

  -- the reached states are exactly those after live prefixes
  pub reached_states : (n : ℕ) → IsReached states n ↔ ((u : List Symbol) × IsLive g start u × (state_after states u ≡ Some n))
  reached_states n = (reached_live, λ v. reached_at (grown v.0) n v.2)

  -- each live prefix leads to a state
  pub live_state : (u : List Symbol) → IsLive g start u → (n : ℕ) × (state_after states u ≡ Some n)
  live_state u (inl e) = (0, ap (state_after states) e)
  live_state u (inr v) = let r = valid_held v.2 in (r.0, r.1)

  -- if reductions are the finished dotted productions, the state after a prefix has the right items
  pub right_items : ((n : ℕ) → ReducesFinished (states n)) → (u : List Symbol) (n : ℕ) → state_after states u ≡ Some n → HasRightItems g start u (states n)
  right_items reductions u n e = record { items = items_valid u n e; edges = closed.edges n; reductions = reductions n }

  -- if reductions are the finished dotted productions, each live prefix leads to a state with the
  -- right items
  pub have_right_items : ((n : ℕ) → ReducesFinished (states n)) → HaveRightItems g start states
  have_right_items reductions u live =
      let s = live_state u live in
      record { number = s.0; after = s.1; right = right_items reductions u s.0 s.1 }

  -- the valid tokens are carried to the dotted productions of the state after the prefix
  pub token_carried : {u : List Symbol} {p : Production} {dot : ℕ} {t : Token} → ValidToken g start u p dot t → (n : ℕ) → state_after states u ≡ Some n → IsCarried g start states n p dot t
  token_carried {p = p} {t = t} (at_start _ h e) n at = subst (λ k. IsCarried g start states k p 0 t) (same_some at) (eof_at_start p h e)
  token_carried (kept {u} {p} {dot} x after v e) n at =
      let m = state_from-last states 0 u x n at in
      over n x after (token_carried v m.0 m.1) m.2 e
  token_carried (begins_behind {u} {p} {dot} q after v e h f) n at = first_of_rest q after (reached_at (grown u) n at) ((items_valid u n at p dot).1 v) e h f
  token_carried (passed_on q after v e h k) n at = through_rest q after (token_carried v n at) e h k

-- checked tables are faithful
pub checked_faithful : (g : List Production) (start : NonterminalString) (states : ℕ → Contents) → AreChecked g start states → AreFaithful g start states
checked_faithful g start states c u live =
    let s = live_state g start states c.closed u live in
    let h = right_items g start states c.closed c.reductions u s.0 s.1 in
    record {
      number = s.0;
      after = s.1;
      right = record {
        contents = h;
        every = every s.0 s.1 h;
        one = λ t stands a b j k. no_conflict_one (states s.0) (c.no_conflict s.0) t a b j k;
      };
    }
  where
    every : (n : ℕ) → state_after states u ≡ Some n → HasRightItems g start u (states n) → (t : Token) (a : Action) → IsValidAction g start u t a → Allows (states n) t a
    every n at h t (Shift x) v = (v.0, (edges_awaited h (Terminal x)).1 v.1)
    every n at h t (Reduce p) v =
        let f = (reductions_valid h p).1 (valid v) in
        let k : IsCarried g start states n p (length p.symbols) t = token_carried g start states c.closed v n at in
        (f.0, f.1, f.2, c.carried n f.0 t f.1 (subst (λ (q : Production). IsCarried g start states n q (length q.symbols) t) (sym f.2) k))
