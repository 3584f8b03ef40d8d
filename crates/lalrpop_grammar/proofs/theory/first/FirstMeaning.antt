-- FIRST sets by bits, and the tokens that follow instead of Eof.
use Rattle.std.proofs.Common.{◌≡◌, ◌≢◌, ℕ, zero, suc, ◌<◌, ◌⊎◌, ◌↔◌, inl, inr, List, [], ◌∷◌, length, refl, sym, ap, subst, ◌∙◌, arith, Some, true, false, not, ◌&&◌, ◌==◌}
use Rattle.std.specs.Prelude.{slice_get}
use Rattle.std.proofs.lemmas.Bool.{false≢true, or_cases, or_left, or_right, cases_lt, and_parts, and_from, eqb-false, ne_eqb, not-true, not_from_false}
use Rattle.std.proofs.lemmas.Option.{slice_get_within}
use mathlib.Core.List.{cons≢nil, head-eq_of_cons-eq}
use Rattle.lalrpop_grammar.proofs.Types.{NonterminalString, Symbol, TerminalString}
use Rattle.lalrpop_grammar.specs.declared.repr.Symbol.TheVariants.{Nonterminal, Terminal}
use Rattle.lalrpop_collections.specs.Words.{Bits, has, join, has-join}
use Rattle.lalrpop_grammar.specs.Words.{as_it_is, IsFirst, IsNullable, Rules, FitsTokens, IsFirstSet, IsFirstSetBefore}
use Rattle.lalrpop_grammar.specs.first.First.{IsFirstBit}
use Rattle.lalrpop_grammar.proofs.theory.grammars.SymbolLists.{same_terminal}
use Rattle.lalrpop_grammar.proofs.theory.grammars.Forests.{nullable-cons, first-cons, first-nil, forest-terminal, derives_forest}
use Rattle.lalrpop_collections.proofs.theory.lists.Lists.{same_some}

-- ---- bits and tokens
-- no terminal has the bit of Eof
pub at_end : (terminals : List TerminalString) (bit : ℕ) (t : TerminalString) → slice_get terminals bit ≡ Some t → bit ≡ length terminals → ⊥
at_end terminals bit t at e = let within : bit < length terminals = slice_get_within terminals bit t at in omega arith

-- each lower bit is that of a terminal
pub terminal_at : (terminals : List TerminalString) (bit : ℕ) → bit < length terminals → (t : TerminalString) × (slice_get terminals bit ≡ Some t)
terminal_at [] bit l = absurd (omega arith)
terminal_at (t ∷ ts) zero l = (t, refl)
terminal_at (t ∷ ts) (suc bit) l = terminal_at ts bit (omega arith)

-- ---- FIRST by bits
module _ (g : Rules) where
  -- a bit is in FIRST of a list if it is Eof and the list is nullable, or if it is a terminal in
  -- FIRST of the list
  abbrev pub InFirst : List Symbol → ℕ → Type 0
  InFirst l bit = ((bit ≡ length g.terminals) × IsNullable g.productions l) ⊎ IsFirstBit g l bit

  pub First-set : (l : List Symbol) (set : Bits) → ((bit : ℕ) → (has set bit ≡ true) ↔ InFirst l bit) → IsFirstSet g l set
  First-set l set is = record {
    begins = λ bit t at. (
      λ h. elim ((is bit).0 h) [ inl e ↦ absurd (at_end g.terminals bit t at e.0) | inr f ↦ subst (λ (u : TerminalString). IsFirst g.productions l u) (same_some (sym f.1 ∙ at)) f.2 ],
      λ f. (is bit).1 (inr (t, at, f)),
    );
    ends = (
      λ h. elim ((is (length g.terminals)).0 h) [ inl e ↦ e.1 | inr f ↦ absurd (at_end g.terminals (length g.terminals) f.0 f.1 refl) ],
      λ d. (is (length g.terminals)).1 (inl (refl, d)),
    );
    fits = λ bit h. elim ((is bit).0 h) [ inl e ↦ let same = e.0 in omega arith | inr f ↦ let within : bit < length g.terminals = slice_get_within g.terminals bit f.0 f.1 in omega arith ];
  }

  pub InFirst-nil : (bit : ℕ) → InFirst [] bit ↔ (bit ≡ length g.terminals)
  InFirst-nil bit = (λ f. elim f [ inl e ↦ e.0 | inr f ↦ absurd (first-nil f.0 f.2) ], λ e. inl (e, as_it_is))

  pub InFirst-terminal : (t : TerminalString) (l : List Symbol) (b bit : ℕ) → slice_get g.terminals b ≡ Some t → (slice_get g.terminals bit ≡ Some t → b ≡ bit) → InFirst (Terminal t ∷ l) bit ↔ (bit ≡ b)
  InFirst-terminal t l b bit at only = (
    λ f. elim f [
      | inl e ↦ let r = forest-terminal (derives_forest e.1) in absurd (cons≢nil (sym r.1))
      | inr f ↦ let r = forest-terminal (derives_forest f.2.1) in sym (only (f.1 ∙ ap Some (same_terminal (head-eq_of_cons-eq r.1))))
    ],
    λ e. inr (t, ap (slice_get g.terminals) e ∙ at, (l, as_it_is)),
  )

  pub InFirst-name : (a : NonterminalString) (l : List Symbol) (bit : ℕ) → InFirst (Nonterminal a ∷ l) bit ↔ (IsFirstBit g (Nonterminal a ∷ []) bit ⊎ (IsNullable g.productions (Nonterminal a ∷ []) × InFirst l bit))
  InFirst-name a l bit = (
    λ f. elim f [
      | inl e ↦ let r = (nullable-cons (Nonterminal a) l).0 e.1 in inr (r.0, inl (e.0, r.1))
      | inr f ↦ elim ((first-cons (Nonterminal a) l f.0).0 f.2) [ inl r ↦ inl (f.0, f.1, r) | inr r ↦ inr (r.0, inr (f.0, f.1, r.1)) ]
    ],
    λ f. elim f [
      | inl b ↦ inr (b.0, b.1, (first-cons (Nonterminal a) l b.0).1 (inl b.2))
      | inr r ↦ elim r.1 [
        | inl e ↦ inl (e.0, (nullable-cons (Nonterminal a) l).1 (r.0, e.1))
        | inr b ↦ inr (b.0, b.1, (first-cons (Nonterminal a) l b.0).1 (inr (r.0, b.2)))
      ]
    ],
  )

-- ---- the tokens that follow, instead of Eof
without_end : (first mid : Bits) (n : ℕ) → ((bit : ℕ) → has mid bit ≡ (has first bit && not (bit == n))) → (bit : ℕ) → (has mid bit ≡ true) ↔ ((has first bit ≡ true) × (bit ≢ n))
without_end first mid n left bit = (
  λ h. let r = and_parts (has first bit) (not (bit == n)) (sym (left bit) ∙ h) in (r.0, eqb-false bit n (not-true _ r.1)),
  λ h. left bit ∙ and_from _ _ h.0 (not_from_false _ (ne_eqb bit n h.1)),
)

pub Before-nullable : (g : Rules) (l : List Symbol) (follow first mid set : Bits) → IsFirstSet g l first → has first (length g.terminals) ≡ true → ((bit : ℕ) → has mid bit ≡ (has first bit && not (bit == length g.terminals))) → set ≡ join mid follow → IsFirstSetBefore g l follow set
Before-nullable g l follow first mid set f there left joined =
    let n = length g.terminals in
    let nullable = f.ends.0 there in
    let into : (bit : ℕ) → ((has mid bit ≡ true) ⊎ (has follow bit ≡ true)) → has set bit ≡ true =
    λ bit h. ap (λ s. has s bit) joined ∙ has-join mid follow bit ∙ elim h [ inl m ↦ or_left _ (has follow bit) m | inr m ↦ or_right (has mid bit) _ m ] in
    let from : (bit : ℕ) → has set bit ≡ true → (has mid bit ≡ true) ⊎ (has follow bit ≡ true) =
    λ bit h. or_cases (has mid bit) (has follow bit) (sym (ap (λ s. has s bit) joined ∙ has-join mid follow bit) ∙ h) in
    let middle = without_end first mid n left in
    record {
      begins = λ bit t at. (
        λ h. elim (from bit h) [ inl m ↦ inl ((f.begins bit t at).0 ((middle bit).0 m).0) | inr m ↦ inr (nullable, m) ],
        λ h. elim h [ inl k ↦ into bit (inl ((middle bit).1 ((f.begins bit t at).1 k, at_end g.terminals bit t at))) | inr k ↦ into bit (inr k.1) ],
      );
      others = λ bit past. (
        λ h. elim (from bit h) [ inl m ↦ let r = (middle bit).0 m in absurd (r.1 (let small = f.fits bit r.0 in omega arith)) | inr m ↦ (nullable, m) ],
        λ h. into bit (inr h.1),
      );
    }

pub Before-otherwise : (g : Rules) (l : List Symbol) (follow first set : Bits) → IsFirstSet g l first → has first (length g.terminals) ≡ false → ((bit : ℕ) → has set bit ≡ (has first bit && not (bit == length g.terminals))) → IsFirstSetBefore g l follow set
Before-otherwise g l follow first set f out left =
    let never : IsNullable g.productions l → ⊥ = λ d. false≢true (sym out ∙ f.ends.1 d) in
    let middle = without_end first set (length g.terminals) left in
    record {
      begins = λ bit t at. (
        λ h. inl ((f.begins bit t at).0 ((middle bit).0 h).0),
        λ h. elim h [ inl k ↦ (middle bit).1 ((f.begins bit t at).1 k, at_end g.terminals bit t at) | inr k ↦ absurd (never k.0) ],
      );
      others = λ bit past. (
        λ h. let r = (middle bit).0 h in absurd (r.1 (let small = f.fits bit r.0 in omega arith)),
        λ h. absurd (never h.0),
      );
    }

pub Before-fits : (g : Rules) (l : List Symbol) (follow set : Bits) → IsFirstSetBefore g l follow set → FitsTokens g.terminals follow → FitsTokens g.terminals set
Before-fits g l follow set b fits bit h = elim (cases_lt bit (length g.terminals)) [
  | inl less ↦ omega arith
  | inr past ↦ fits bit ((b.others bit past).0 h).1
]
