-- Consequences of the validity of a dotted production or a token: how the prefix ends, and what the
-- start symbol derives. The proofs are by induction on validity.
use Rattle.std.proofs.Common.{◌≡◌, ℕ, suc, ◌⊎◌, inl, inr, List, [], ◌∷◌, ◌++◌, take, drop, length, append_assoc, append-nil, sym, subst, refl, ap, ◌∙◌, ◌+◌, arith}
use Rattle.std.specs.Prelude.{Contains}
use Rattle.lalrpop_grammar.proofs.Types.{NonterminalString, Production, Symbol, Token}
use Rattle.lalrpop_grammar.specs.declared.repr.Symbol.TheVariants.{Nonterminal}
use Rattle.lalrpop_grammar.specs.Words.{Derives, as_it_is, replace, Valid, starts, shifts, expands, ValidToken, at_start, kept, begins_behind, passed_on}
use Rattle.lalrpop_grammar.specs.Words.{IsAwaited, IsLive, Action, Shift, Reduce, IsValidAction}
use Rattle.lalrpop_collections.proofs.theory.lists.Lists.{drop_past, take_past}
use Rattle.lalrpop_grammar.proofs.theory.grammars.Derivations.{Derives-from, Derives-to, Derives-trans, Derives-production}

-- a dotted production with a valid token is valid
pub valid : {g : List Production} {start : NonterminalString} {u : List Symbol} {p : Production} {dot : ℕ} {t : Token} → ValidToken g start u p dot t → Valid g start u p dot
valid (at_start p h e) = starts p h e
valid (kept x after v e) = shifts x after (valid v) e
valid (begins_behind q after v e h f) = expands q after v e h
valid (passed_on q after v e h n) = expands q after (valid v) e h

-- a valid dotted production is one of the grammar
pub of_grammar : {g : List Production} {start : NonterminalString} {u : List Symbol} {p : Production} {dot : ℕ} → Valid g start u p dot → Contains g p
of_grammar (starts p h e) = h
of_grammar (shifts x after v e) = of_grammar v
of_grammar (expands q after v e h) = h

-- a valid token stays valid for an equal prefix
pub ValidToken-at : {g : List Production} {start : NonterminalString} {u v : List Symbol} {p : Production} {dot : ℕ} {t : Token} → u ≡ v → ValidToken g start u p dot t → ValidToken g start v p dot t
ValidToken-at {g} {start} {p = p} {dot = dot} {t = t} e h = subst (λ u. ValidToken g start u p dot t) e h

-- a valid dotted production with the dot moved back to its start. The prefix ends with the symbols
-- before the dot
pub record Unshifted (g : List Production) (start : NonterminalString) (u : List Symbol) (p : Production) (dot : ℕ) : Type 0 where
  pub prefix : List Symbol
  pub ends : u ≡ prefix ++ take dot p.symbols
  pub valid : Valid g start prefix p 0

-- the dot of each valid dotted production can be moved back
pub unshifted : {g : List Production} {start : NonterminalString} {u : List Symbol} {p : Production} {dot : ℕ} → Valid g start u p dot → Unshifted g start u p dot
unshifted (starts p h e) = record { prefix = []; ends = refl; valid = starts p h e }
unshifted (expands {u} q after v e h) = record { prefix = u; ends = sym (append-nil u); valid = expands q after v e h }
unshifted (shifts {u} {p} {dot} x after v e) =
    let r = unshifted v in
    record {
      prefix = r.prefix;
      ends = ap (λ w. w ++ x ∷ []) r.ends ∙ append_assoc r.prefix (take dot p.symbols) (x ∷ []) ∙ ap (λ w. r.prefix ++ w) (sym (take_past dot p.symbols e));
      valid = r.valid;
    }

-- a valid dotted production with the dot at the start is that of the start symbol, or its
-- nonterminal is awaited
pub at_the_start : {g : List Production} {start : NonterminalString} {u : List Symbol} {p : Production} → Valid g start u p 0 → ((u ≡ []) × (p.nonterminal ≡ start)) ⊎ IsAwaited g start u (Nonterminal p.nonterminal)
at_the_start (starts p h e) = inl (refl, e)
at_the_start (expands {p = p} {dot = dot} q after v e h) = inr (record { production = p; dot = dot; after = after; valid = v; behind = e })

-- a prefix with an awaited symbol at its end is live
pub awaited_live : {g : List Production} {start : NonterminalString} {u : List Symbol} {x : Symbol} → IsAwaited g start u x → IsLive g start (u ++ x ∷ [])
awaited_live {x = x} a = inr (a.production, suc a.dot, shifts x a.after a.valid a.behind)

-- the dot moves over any number of symbols
pub shifts_all : {g : List Production} {start : NonterminalString} (p : Production) {t : Token} (l : List Symbol) {u : List Symbol} {dot : ℕ} (after : List Symbol) → ValidToken g start u p dot t → drop dot p.symbols ≡ l ++ after → (end : ℕ) × (end ≡ dot + length l) × ValidToken g start (u ++ l) p end t
shifts_all p [] {u} {dot} after v e = (dot, omega arith, ValidToken-at (sym (append-nil u)) v)
shifts_all p (x ∷ l) {u} {dot} after v e =
    let r = shifts_all p l after (kept x (l ++ after) v e) (drop_past dot p.symbols e) in
    (r.0, omega (arith, r.1), ValidToken-at (append_assoc u (x ∷ []) l) r.2)

-- the dot moves over all symbols
pub shifted_whole : {g : List Production} {start : NonterminalString} {u : List Symbol} (p : Production) {t : Token} → ValidToken g start u p 0 t → ValidToken g start (u ++ p.symbols) p (length p.symbols) t
shifted_whole {g} {start} {u} p {t} v =
    let r = shifts_all p p.symbols [] v (sym (append-nil p.symbols)) in
    let e : r.0 ≡ length p.symbols = omega (arith, r.1) in
    subst (λ n. ValidToken g start (u ++ p.symbols) p n t) e r.2

-- each live prefix is the beginning of a list that the start symbol derives: the symbols after the
-- dot of any of its dotted productions can follow it
pub extends : {g : List Production} {start : NonterminalString} {u : List Symbol} {p : Production} {dot : ℕ} → Valid g start u p dot → (rest : List Symbol) × Derives g (Nonterminal start ∷ []) (u ++ (drop dot p.symbols ++ rest))
extends {g} (starts p h e) = ([], Derives-from (ap (λ a. Nonterminal a ∷ []) e) (Derives-to (sym (append-nil p.symbols)) (Derives-production p h)))
extends (shifts {u} {p} {dot} x after v e) =
    let r = extends v in
    (r.0, Derives-to (ap (λ l. u ++ (l ++ r.0)) e ∙ sym (append_assoc u (x ∷ []) (after ++ r.0)) ∙ ap (λ l. (u ++ x ∷ []) ++ (l ++ r.0)) (sym (drop_past dot p.symbols e))) r.1)
extends (expands {u} {p} {dot} q after v e h) =
    let r = extends v in
    (after ++ r.0, Derives-trans (Derives-to (ap (λ l. u ++ (l ++ r.0)) e) r.1) (replace u (after ++ r.0) q h as_it_is))

-- a prefix with a valid action is live
pub action_live : {g : List Production} {start : NonterminalString} {u : List Symbol} (t : Token) (a : Action) → IsValidAction g start u t a → IsLive g start u
action_live t (Shift x) h = inr ((h.1).production, (h.1).dot, (h.1).valid)
action_live t (Reduce p) h = inr (p, length p.symbols, valid h)
