-- Canonical states hold exactly the valid tokens. So they are faithful exactly if the grammar is
-- LR(1). A sentence can go on with a valid token after the prefix.
-- The proofs are by induction on the prefix and on the derivation that an item is valid.
use Rattle.std.proofs.Common.{◌↔◌, Some, ◌≡◌, ℕ, suc, List, [], ◌∷◌, ◌++◌, drop, length, append_assoc, append-nil, sym, subst, refl, ap, ◌∙◌}
use Rattle.lr1_theory.proofs.Types.{NonterminalString, Production, Symbol, TerminalString, Token}
use Rattle.lalrpop_grammar.specs.declared.repr.Symbol.TheVariants.{Nonterminal, Terminal}
use Rattle.lalrpop_grammar.specs.declared.lookahead.token.Token.TheVariants.{Eof, Terminal as TokenOf}
use Rattle.lalrpop_grammar.specs.Words.{Derives, replace, IsLR1, Action, Shift, Reduce, IsValidAction, Valid, ValidToken, at_start, kept, begins_behind, passed_on}
use Rattle.lalrpop_grammar.specs.Words.{IsLive, Contents, state_after, Allows, HasRightItems, AreFaithful, InTokenClosure, with_token, begins_rest, inherits}
use Rattle.lalrpop_grammar.specs.Words.{IsAtStartWith, IsMovedWith, items_of, AreCanonical}
use Rattle.lalrpop_collections.proofs.theory.lists.Lists.{drop_past, Grown, from_nothing, more, grown, same_some}
use Rattle.lr1_theory.proofs.theory.closures.Closures.{state_from-last, items_valid, right_items, live_state}
use Rattle.lalrpop_grammar.proofs.theory.states.RightStates.{edges_awaited, reductions_valid, no_conflict_one, one_no_conflict}
use Rattle.lalrpop_grammar.proofs.theory.grammars.Derivations.{Derives-from, Derives-to, Derives-trans, Derives-left, Derives-right, Derives-production}
use Rattle.lalrpop_grammar.proofs.theory.closures.Valid.{extends, valid}
use Rattle.lalrpop_grammar.specs.conflicts.Conflicts.{HasNoConflict}

-- the list begins with the token: with its terminal, or, for Eof, the list is empty
pub data BeginsWith : Token → List Symbol → Type 0 where
  ends_here : BeginsWith Eof []
  goes_on_with : (t : TerminalString) (rest : List Symbol) → BeginsWith (TokenOf t) (Terminal t ∷ rest)

-- the start symbol derives the prefix, then the symbols after the dot, and then a list that begins
-- with the token
pub token_follows : {g : List Production} {start : NonterminalString} {u : List Symbol} {p : Production} {dot : ℕ} {t : Token} → ValidToken g start u p dot t → (rest : List Symbol) × BeginsWith t rest × Derives g (Nonterminal start ∷ []) (u ++ (drop dot p.symbols ++ rest))
token_follows (at_start p h e) = ([], ends_here, Derives-from (ap (λ a. Nonterminal a ∷ []) e) (Derives-to (sym (append-nil p.symbols)) (Derives-production p h)))
token_follows (kept {u} {p} {dot} x after v e) =
    let r = token_follows v in
    (r.0, r.1, Derives-to (ap (λ l. u ++ (l ++ r.0)) e ∙ sym (append_assoc u (x ∷ []) (after ++ r.0)) ∙ ap (λ l. (u ++ x ∷ []) ++ (l ++ r.0)) (sym (drop_past dot p.symbols e))) r.2)
token_follows (begins_behind {u} {p} {dot} {t} q after v e h f) =
    let r = extends v in (
      Terminal t ∷ (f.0 ++ r.0),
      goes_on_with t (f.0 ++ r.0),
      Derives-trans (Derives-to (ap (λ l. u ++ (l ++ r.0)) e) r.1)
          (replace u (after ++ r.0) q h (Derives-left u (Derives-left q.symbols (Derives-right r.0 f.1)))),
    )
token_follows (passed_on {u} {p} {dot} q after v e h n) =
    let r = token_follows v in (
      r.0,
      r.1,
      Derives-trans (Derives-to (ap (λ l. u ++ (l ++ r.0)) e) r.2)
          (replace u (after ++ r.0) q h (Derives-left u (Derives-left q.symbols (Derives-right r.0 n)))),
    )

module _ (g : List Production) (start : NonterminalString) (states : ℕ → Contents) (tokens : ℕ → Production → ℕ → Token → Type 0) (canonical : AreCanonical g start states tokens) where
  -- the dotted productions of a state are exactly those that are valid for a prefix that leads to
  -- the state
  items_at : (u : List Symbol) (n : ℕ) → state_after states u ≡ Some n → (p : Production) (dot : ℕ) → items_of states n p dot ↔ Valid g start u p dot
  items_at = items_valid g start states canonical.closed

  -- the tokens of a state are valid for a prefix that leads to it
  pub tokens_valid : {u : List Symbol} → Grown u → (n : ℕ) → state_after states u ≡ Some n → (p : Production) (dot : ℕ) (t : Token) → tokens n p dot t → ValidToken g start u p dot t
  tokens_valid from_nothing n e p dot t h = go ((canonical.first p dot t).0 (subst (λ k. tokens k p dot t) (sym (same_some e)) h))
    where
      go : {q : Production} {d : ℕ} {s : Token} → InTokenClosure g (items_of states 0) (IsAtStartWith g start) q d s → ValidToken g start [] q d s
      go {q} {d} (with_token k) = subst (λ s. ValidToken g start [] q d s) (sym k.1) (subst (λ i. ValidToken g start [] q i Eof) (sym k.0.0) (at_start q k.0.1 k.0.2))
      go (begins_rest {p = r} {dot = d} q after i b h' f) = begins_behind q after ((items_at [] 0 refl r d).0 i) b h' f
      go (inherits q after c b h' k) = passed_on q after (go c) b h' k
  tokens_valid (more {l = u} x k) n e p dot t h =
      let m = state_from-last states 0 u x n e in
      go m.0 (tokens_valid k m.0 m.1) ((canonical.next m.0 n x m.2 p dot t).0 h)
    where
      go : (m : ℕ) → ((q : Production) (d : ℕ) (s : Token) → tokens m q d s → ValidToken g start u q d s) → {q : Production} {d : ℕ} {s : Token} → InTokenClosure g (items_of states n) (IsMovedWith (tokens m) x) q d s → ValidToken g start (u ++ x ∷ []) q d s
      go m before {q} {s = s} (with_token i) = subst (λ d. ValidToken g start (u ++ x ∷ []) q d s) (sym i.moved) (kept x i.after (before q i.before s i.token) i.behind)
      go m before (begins_rest {p = r} {dot = d} q after i b h' f) = begins_behind q after ((items_at (u ++ x ∷ []) n e r d).0 i) b h' f
      go m before (inherits q after c b h' k') = passed_on q after (go m before c) b h' k'

  -- the tokens of the state are those of the closure of some kernel
  pub record IsTokenClosed (n : ℕ) : Type 1 where
    pub kernel : Production → ℕ → Token → Type 0
    pub closure : (p : Production) (dot : ℕ) (t : Token) → tokens n p dot t ↔ InTokenClosure g (items_of states n) kernel p dot t

  -- the tokens of each state after a prefix are those of the closure of some kernel
  pub token_closed : {u : List Symbol} → Grown u → (n : ℕ) → state_after states u ≡ Some n → IsTokenClosed n
  token_closed from_nothing n at = subst IsTokenClosed (same_some at) (record { kernel = IsAtStartWith g start; closure = canonical.first })
  token_closed (more {l = u} x k) n at =
      let m = state_from-last states 0 u x n at in
      record { kernel = IsMovedWith (tokens m.0) x; closure = canonical.next m.0 n x m.2 }

  -- a state to which a prefix leads holds each token that is valid for the prefix
  pub valid_token_held : {u : List Symbol} {p : Production} {dot : ℕ} {t : Token} → ValidToken g start u p dot t → (n : ℕ) → state_after states u ≡ Some n → tokens n p dot t
  valid_token_held (at_start p h e) n at = subst (λ k. tokens k p 0 Eof) (same_some at) ((canonical.first p 0 Eof).1 (with_token ((refl, h, e), refl)))
  valid_token_held (kept {u} {p} {dot} {t} x after v e) n at =
      let m = state_from-last states 0 u x n at in
      (canonical.next m.0 n x m.2 p (suc dot) t).1 (with_token (record { before = dot; after = after; moved = refl; token = valid_token_held v m.0 m.1; behind = e }))
  valid_token_held (begins_behind {u} {p} {dot} {t} q after v e h f) n at =
      ((token_closed (grown u) n at).closure q 0 (TokenOf t)).1 (begins_rest q after ((items_at u n at p dot).1 v) e h f)
  valid_token_held (passed_on {u} {p} {dot} {t} q after v e h k) n at =
      let c = token_closed (grown u) n at in
      (c.closure q 0 t).1 (inherits q after ((c.closure p dot t).0 (valid_token_held v n at)) e h k)

  -- each dotted production of a state after a prefix has exactly its valid tokens
  pub tokens_exact : (u : List Symbol) (n : ℕ) → state_after states u ≡ Some n → (p : Production) (dot : ℕ) (t : Token) → tokens n p dot t ↔ ValidToken g start u p dot t
  tokens_exact u n at p dot t = (tokens_valid (grown u) n at p dot t, λ v. valid_token_held v n at)

  -- the state after a prefix has the right items for it
  pub right_at : (u : List Symbol) (n : ℕ) → state_after states u ≡ Some n → HasRightItems g start u (states n)
  right_at = right_items g start states canonical.closed canonical.reductions

  -- the state after a prefix allows exactly the valid actions
  pub allows_valid : (u : List Symbol) (n : ℕ) → state_after states u ≡ Some n → (t : Token) (a : Action) → Allows (states n) t a ↔ IsValidAction g start u t a
  allows_valid u n at t (Shift x) = (
    λ h. (h.0, (edges_awaited (right_at u n at) (Terminal x)).0 h.1),
    λ h. (h.0, (edges_awaited (right_at u n at) (Terminal x)).1 h.1),
  )
  allows_valid u n at t (Reduce p) = (
    λ h.
        let k : tokens n p (length p.symbols) t = subst (λ (q : Production). tokens n q (length q.symbols) t) h.2 ((canonical.holds n h.0 t h.1).0 h.3) in
        (tokens_exact u n at p (length p.symbols) t).0 k,
    λ v.
        let f = (reductions_valid (right_at u n at) p).1 (valid v) in
        (f.0, f.1, f.2, (canonical.holds n f.0 t f.1).1 (subst (λ (q : Production). tokens n q (length q.symbols) t) (sym f.2) ((tokens_exact u n at p (length p.symbols) t).1 v))),
  )

  -- canonical states are faithful if the grammar is LR(1)
  pub canonical_faithful : IsLR1 g start → AreFaithful g start states
  canonical_faithful lr u live =
      let s = live_state g start states canonical.closed u live in
      record {
        number = s.0;
        after = s.1;
        right = record {
          contents = right_at u s.0 s.1;
          every = λ t a v. (allows_valid u s.0 s.1 t a).1 v;
          one = λ t stands a b h k. lr u t a b ((allows_valid u s.0 s.1 t a).0 h) ((allows_valid u s.0 s.1 t b).0 k);
        };
      }

  -- canonical states are faithful if no state after a live prefix has a conflict
  pub no_conflict_faithful : ((u : List Symbol) (n : ℕ) → IsLive g start u → state_after states u ≡ Some n → HasNoConflict (states n)) → AreFaithful g start states
  no_conflict_faithful none u live =
      let s = live_state g start states canonical.closed u live in
      record {
        number = s.0;
        after = s.1;
        right = record {
          contents = right_at u s.0 s.1;
          every = λ t a v. (allows_valid u s.0 s.1 t a).1 v;
          one = λ t stands a b h k. no_conflict_one (states s.0) (none u s.0 live s.1) t a b h k;
        };
      }

  -- no state after a live prefix has a conflict if the grammar is LR(1)
  pub lr1_no_state_conflict : IsLR1 g start → (u : List Symbol) (n : ℕ) → IsLive g start u → state_after states u ≡ Some n → HasNoConflict (states n)
  lr1_no_state_conflict lr u n live at = one_no_conflict (states n) (canonical.reductions n).once (λ t a b h k. lr u t a b ((allows_valid u n at t a).0 h) ((allows_valid u n at t b).0 k))
