-- The dotted productions that are valid for a prefix are the closure of the start, or that of the
-- dotted productions that are moved over the last symbol of the prefix.
use Rattle.std.proofs.Common.{◌≡◌, ◌+◌, ℕ, List, [], ◌∷◌, ◌++◌, length, refl, sym, ◌∙◌, ap, subst, arith, length-append}
use Rattle.lalrpop_base.specs.Words.{InClosure, in_kernel, expanded, InTokenClosure, with_token, begins_rest, inherits, IsAtStart, IsAtStartWith, IsMoved}
use Rattle.lalrpop_base.specs.Words.{IsMovedWith, Valid, starts, shifts, expands, ValidToken, at_start, kept, begins_behind, passed_on}
use Rattle.lalrpop_construction.proofs.Types.{NonterminalString, Production, Symbol, Token}
use Rattle.lalrpop_grammar.specs.declared.lookahead.token.Token.TheVariants.{Eof}
use Rattle.lalrpop_collections.proofs.theory.lists.Lists.{same_last}

longer≢nil : (u : List Symbol) (x : Symbol) → u ++ x ∷ [] ≡ [] → ⊥
longer≢nil u x e =
    let l : length (u ++ x ∷ []) ≡ 0 = ap length e in
    let k : length (u ++ x ∷ []) ≡ length u + 1 = length-append u (x ∷ []) in
    omega arith

module _ (g : List Production) (start : NonterminalString) where
  -- ---- the empty prefix
  pub valid_of_start : {p : Production} {dot : ℕ} → InClosure g (IsAtStart g start) p dot → Valid g start [] p dot
  valid_of_start {p} (in_kernel k) = subst (Valid g start [] p) (sym k.0) (starts p k.1 k.2)
  valid_of_start (expanded q after c b h) = expands q after (valid_of_start c) b h

  pub start_of_valid : {u : List Symbol} {p : Production} {dot : ℕ} → Valid g start u p dot → u ≡ [] → InClosure g (IsAtStart g start) p dot
  start_of_valid (starts p h e) z = in_kernel (refl, h, e)
  start_of_valid (shifts {u} x after v b) z = absurd (longer≢nil u x z)
  start_of_valid (expands q after v b h) z = expanded q after (start_of_valid v z) b h

  pub token_of_start : {p : Production} {dot : ℕ} {t : Token} → InTokenClosure g (Valid g start []) (IsAtStartWith g start) p dot t → ValidToken g start [] p dot t
  token_of_start {p} {dot} (with_token k) = subst (λ (t : Token). ValidToken g start [] p dot t) (sym k.1) (subst (λ (d : ℕ). ValidToken g start [] p d Eof) (sym k.0.0) (at_start p k.0.1 k.0.2))
  token_of_start (begins_rest q after i b h f) = begins_behind q after i b h f
  token_of_start (inherits q after c b h n) = passed_on q after (token_of_start c) b h n

  pub start_of_token : {u : List Symbol} {p : Production} {dot : ℕ} {t : Token} → ValidToken g start u p dot t → u ≡ [] → InTokenClosure g (Valid g start []) (IsAtStartWith g start) p dot t
  start_of_token (at_start p h e) z = with_token ((refl, h, e), refl)
  start_of_token (kept {u} x after v b) z = absurd (longer≢nil u x z)
  start_of_token (begins_behind {u} {p} {dot} q after v b h f) z = begins_rest q after (subst (λ w. Valid g start w p dot) z v) b h f
  start_of_token (passed_on q after v b h n) z = inherits q after (start_of_token v z) b h n

  -- ---- a longer prefix
  module _ (u : List Symbol) (x : Symbol) where
    pub valid_of_moved : {p : Production} {dot : ℕ} → InClosure g (IsMoved (Valid g start u) x) p dot → Valid g start (u ++ x ∷ []) p dot
    valid_of_moved {p} (in_kernel i) = subst (Valid g start (u ++ x ∷ []) p) (sym i.moved) (shifts x i.after i.item i.behind)
    valid_of_moved (expanded q after c b h) = expands q after (valid_of_moved c) b h

    pub moved_of_valid : {w : List Symbol} {p : Production} {dot : ℕ} → Valid g start w p dot → w ≡ u ++ x ∷ [] → InClosure g (IsMoved (Valid g start u) x) p dot
    moved_of_valid (starts p h e) z = absurd (longer≢nil u x (sym z))
    moved_of_valid (shifts {u = w} {p} {dot} y after v b) z =
        let s = same_last w u z in
        in_kernel (record { before = dot; after = after; moved = refl; item = subst (λ l. Valid g start l p dot) s.0 v; behind = b ∙ ap (λ z'. z' ∷ after) s.1 })
    moved_of_valid (expands q after v b h) z = expanded q after (moved_of_valid v z) b h

    pub token_of_moved : {p : Production} {dot : ℕ} {t : Token} → InTokenClosure g (Valid g start (u ++ x ∷ [])) (IsMovedWith (ValidToken g start u) x) p dot t → ValidToken g start (u ++ x ∷ []) p dot t
    token_of_moved {p} {dot} {t} (with_token i) = subst (λ (d : ℕ). ValidToken g start (u ++ x ∷ []) p d t) (sym i.moved) (kept x i.after i.token i.behind)
    token_of_moved (begins_rest q after i b h f) = begins_behind q after i b h f
    token_of_moved (inherits q after c b h n) = passed_on q after (token_of_moved c) b h n

    pub moved_of_token : {w : List Symbol} {p : Production} {dot : ℕ} {t : Token} → ValidToken g start w p dot t → w ≡ u ++ x ∷ [] → InTokenClosure g (Valid g start (u ++ x ∷ [])) (IsMovedWith (ValidToken g start u) x) p dot t
    moved_of_token (at_start p h e) z = absurd (longer≢nil u x (sym z))
    moved_of_token (kept {u = w} {p} {dot} {t} y after v b) z =
        let s = same_last w u z in
        with_token (record { before = dot; after = after; moved = refl; token = subst (λ l. ValidToken g start l p dot t) s.0 v; behind = b ∙ ap (λ z'. z' ∷ after) s.1 })
    moved_of_token (begins_behind {u = w} {p} {dot} q after v b h f) z = begins_rest q after (subst (λ l. Valid g start l p dot) z v) b h f
    moved_of_token (passed_on q after v b h n) z = inherits q after (moved_of_token v z) b h n

  -- ---- a larger kernel has a larger closure
  pub tokens_along : (I J : Production → ℕ → Type 0) (A B : Production → ℕ → Token → Type 0) → ((p : Production) (dot : ℕ) → I p dot → J p dot) → ((p : Production) (dot : ℕ) (t : Token) → A p dot t → B p dot t) →
      {p : Production} {dot : ℕ} {t : Token} → InTokenClosure g I A p dot t → InTokenClosure g J B p dot t
  tokens_along I J A B f k {p} {dot} {t} (with_token c) = with_token (k p dot t c)
  tokens_along I J A B f k (begins_rest {p} {dot} q after i b h s) = begins_rest q after (f p dot i) b h s
  tokens_along I J A B f k (inherits q after c b h n) = inherits q after (tokens_along I J A B f k c) b h n

pub moved_along : (I J : Production → ℕ → Type 0) (x : Symbol) → ((p : Production) (dot : ℕ) → I p dot → J p dot) → (p : Production) (dot : ℕ) → IsMoved I x p dot → IsMoved J x p dot
moved_along I J x f p dot m = record { before = m.before; after = m.after; moved = m.moved; item = f p m.before m.item; behind = m.behind }

pub moved_with_along : (A B : Production → ℕ → Token → Type 0) (x : Symbol) → ((p : Production) (dot : ℕ) (t : Token) → A p dot t → B p dot t) → (p : Production) (dot : ℕ) (t : Token) → IsMovedWith A x p dot t → IsMovedWith B x p dot t
moved_with_along A B x f p dot t m = record { before = m.before; after = m.after; moved = m.moved; token = f p m.before t m.token; behind = m.behind }
