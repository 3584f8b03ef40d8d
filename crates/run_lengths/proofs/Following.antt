-- After each live prefix a token is right, if each reachable nonterminal is nullable or has a
-- terminal in FIRST.
use Rattle.std.proofs.Common.{◌≡◌, ℕ, ◌⊎◌, inl, inr, List, [], ◌∷◌, ◌++◌, drop, append_assoc, append-nil, sym, refl, ap, ◌∙◌}
use Rattle.std.proofs.lemmas.List.Elements.{Contains-append_right}
use Rattle.lalrpop_grammar.specs.declared.lookahead.token.Token.{Token}
use Rattle.lalrpop_grammar.specs.declared.lookahead.token.Token.TheVariants.{Eof, Error, Terminal as TokenOf}
use Rattle.lalrpop_grammar.specs.declared.repr.NonterminalString.{NonterminalString}
use Rattle.lalrpop_grammar.specs.declared.repr.Production.{Production}
use Rattle.lalrpop_grammar.specs.declared.repr.Symbol.{Symbol}
use Rattle.lalrpop_grammar.specs.declared.repr.Symbol.TheVariants.{Nonterminal, Terminal}
use Rattle.lalrpop_grammar.specs.declared.repr.TerminalString.{TerminalString}
use Rattle.lalrpop_grammar.specs.Words.{Contents, Derives, IsBeginning, IsFirst, IsNullable, IsSentence, Tree, Valid, ValidToken, as_it_is, at_start, begins_behind, expands, kept, passed_on, shifts, starts, terminal_symbols}
use Rattle.lalrpop_collections.proofs.theory.lists.Lists.{contains_head, drop_past}
use Rattle.lalrpop_grammar.proofs.theory.closures.Valid.{extends}
use Rattle.lalrpop_grammar.proofs.theory.grammars.Derivations.{Derives-append, Derives-to, Derives-trans}
use Rattle.lalrpop_grammar.proofs.theory.grammars.SymbolLists.{terminal_symbols-append}
use Rattle.lalrpop_grammar.proofs.theory.runs.Stacks.{Stacked, spelled, stacked_derives}
use Rattle.lr1_theory.proofs.theory.closures.Canonical.{BeginsWith, ends_here, goes_on_with, token_follows}
use Rattle.lalrpop_useful.specs.Words.{IsReachable}
use Rattle.run_lengths.specs.Laws.{IsNullableOrHasFirst}

-- a token follows a dotted production that is valid for a prefix: the symbols after the dot begin
-- with it, or they are nullable and it is a valid token
pub data Follows (g : List Production) (start : NonterminalString) (u : List Symbol) (p : Production) (dot : ℕ) : Token → Type 0 where
  by_first : (t : TerminalString) → Valid g start u p dot → IsFirst g (drop dot p.symbols) t → Follows g start u p dot (TokenOf t)
  by_valid : (t : Token) → ValidToken g start u p dot t → IsNullable g (drop dot p.symbols) → Follows g start u p dot t

module _ (g : List Production) (start : NonterminalString) (all : (a : NonterminalString) → IsReachable g start a → IsNullableOrHasFirst g a) where
  -- an awaited nonterminal is reachable, so that it is nullable or has a terminal in FIRST
  awaited_begins : {u : List Symbol} {p : Production} {dot : ℕ} (a : NonterminalString) (after : List Symbol) → Valid g start u p dot → drop dot p.symbols ≡ Nonterminal a ∷ after → IsNullableOrHasFirst g a
  awaited_begins {u} a after v e =
      let r = extends v in
      let form : List Symbol = u ++ ((Nonterminal a ∷ after) ++ r.0) in
      all a (form, Derives-to (ap (λ l. u ++ (l ++ r.0)) e) r.1, Contains-append_right u ((Nonterminal a ∷ after) ++ r.0) (Nonterminal a) (contains_head (Nonterminal a) (after ++ r.0)))

  -- the symbols after a dot are nullable, or begin with a terminal
  rest_begins : (l : List Symbol) {u : List Symbol} {p : Production} {dot : ℕ} → Valid g start u p dot → drop dot p.symbols ≡ l → IsNullable g l ⊎ ((t : TerminalString) × IsFirst g l t)
  rest_begins [] v e = inl as_it_is
  rest_begins (Terminal t ∷ l) v e = inr (t, (l, as_it_is))
  rest_begins (Nonterminal a ∷ l) {p = p} {dot = dot} v e = elim (awaited_begins a l v e) [
    | inr f ↦ inr (f.0, (f.1.0 ++ l, Derives-append {k = Nonterminal a ∷ []} {m = Terminal f.0 ∷ f.1.0} f.1.1 as_it_is))
    | inl n ↦ elim (rest_begins l (shifts (Nonterminal a) l v e) (drop_past dot p.symbols e)) [
      | inl k ↦ inl (Derives-append {k = Nonterminal a ∷ []} {m = []} n k)
      | inr f ↦ inr (f.0, (f.1.0, Derives-append {k = Nonterminal a ∷ []} {m = []} n f.1.1))
    ]
  ]

  -- each valid dotted production has a valid token
  valid_token : {u : List Symbol} {p : Production} {dot : ℕ} → Valid g start u p dot → (t : Token) × ValidToken g start u p dot t
  valid_token (starts p h e) = (Eof, at_start p h e)
  valid_token (shifts x after v e) = let r = valid_token v in (r.0, kept x after r.1 e)
  valid_token (expands {p = p} {dot = dot} q after v e h) = elim (rest_begins after (shifts (Nonterminal q.nonterminal) after v e) (drop_past dot p.symbols e)) [
    | inl n ↦ let r = valid_token v in (r.0, passed_on q after r.1 e h n)
    | inr f ↦ (TokenOf f.0, begins_behind q after v e h f.1)
  ]

  -- a token follows each valid dotted production
  pub follows : {u : List Symbol} {p : Production} {dot : ℕ} → Valid g start u p dot → (t : Token) × Follows g start u p dot t
  follows {p = p} {dot = dot} v = elim (rest_begins (drop dot p.symbols) v refl) [
    | inl n ↦ let r = valid_token v in (r.0, by_valid r.0 r.1 n)
    | inr f ↦ (TokenOf f.0, by_first f.0 v f.1)
  ]

-- a token is right after a list: the list with the terminal is a beginning, or, for Eof, the list is
-- a sentence
abbrev pub IsRightAfter : List Production → NonterminalString → List TerminalString → Token → Type 0
IsRightAfter g start v Eof = IsSentence g start v
IsRightAfter g start v Error = ⊥
IsRightAfter g start v (TokenOf t) = IsBeginning g start (v ++ t ∷ [])

module _ (g : List Production) (start : NonterminalString) where
  -- a list with a terminal after it is a beginning, if the start symbol derives these symbols first
  begins_with : (v : List TerminalString) (t : TerminalString) (l : List Symbol) → Derives g (Nonterminal start ∷ []) (terminal_symbols v ++ (Terminal t ∷ l)) → IsBeginning g start (v ++ t ∷ [])
  begins_with v t l d = (l, Derives-to (sym (append_assoc (terminal_symbols v) (Terminal t ∷ []) l) ∙ ap (λ k. k ++ l) (sym (terminal_symbols-append v (t ∷ [])))) d)

  -- a token that follows is right after the leaves of the stack
  pub follows_right : {states : ℕ → Contents} {u : List Symbol} {s : ℕ} {below : List ℕ} {trees : List Tree} {p : Production} {dot : ℕ} {t : Token} → Stacked g states u s below trees → Follows g start u p dot t → IsRightAfter g start (spelled trees) t
  follows_right {trees = trees} st (by_first t v f) =
      let r = extends v in
      begins_with (spelled trees) t (f.0 ++ r.0) (Derives-trans r.1 (Derives-append (stacked_derives st) (Derives-append {m = Terminal t ∷ f.0} f.1 as_it_is)))
  follows_right {u = u} {trees = trees} {p = p} {dot = dot} st (by_valid t v n) =
      let r = token_follows v in
      go t r.0 r.1 (Derives-trans r.2 (Derives-append (stacked_derives st) (Derives-append {m = []} n as_it_is)))
    where
      go : (t : Token) (l : List Symbol) → BeginsWith t l → Derives g (Nonterminal start ∷ []) (terminal_symbols (spelled trees) ++ l) → IsRightAfter g start (spelled trees) t
      go _ _ ends_here d = Derives-to (append-nil (terminal_symbols (spelled trees))) d
      go _ _ (goes_on_with t l) d = begins_with (spelled trees) t l d
