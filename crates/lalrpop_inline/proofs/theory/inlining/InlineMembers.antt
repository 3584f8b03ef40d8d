-- Elements of joined and mapped lists, and which symbols a right side mentions.
use Rattle.std.proofs.Common.{◌≡◌, inl, inr, Bool, true, false, ◌||◌, List, [], ◌∷◌, refl, sym, ◌∙◌, ap, subst}
use Rattle.std.specs.Prelude.{Contains}
use Rattle.std.proofs.lemmas.Slice.Eq.{bytes_eq-Decides}
use Rattle.std.proofs.lemmas.Bool.{or_cases}
use mathlib.Core.Bool.{true≢false}
use Rattle.lalrpop_inline.proofs.Types.{NonterminalString, Symbol}
use Rattle.lalrpop_grammar.specs.declared.repr.Symbol.TheVariants.{Nonterminal, Terminal}
use Rattle.lalrpop_base.specs.Words.{name_exact}
use Rattle.lalrpop_collections.proofs.theory.lists.Lists.{contains-cons, contains-nil, contains_head, contains_tail}
use Rattle.lalrpop_inline.specs.Words.{is_named, mentions}

-- a symbol for which the test is true is the nonterminal
pub named_exactly : (b : NonterminalString) (x : Symbol) → is_named b x ≡ true → x ≡ Nonterminal b
named_exactly b (Nonterminal a) h = ap Nonterminal (name_exact a b h)
named_exactly b (Terminal t) h = absurd (true≢false (sym h))

-- the test is true for the nonterminal
pub names_itself : (b : NonterminalString) → is_named b (Nonterminal b) ≡ true
names_itself b = (bytes_eq-Decides b.text b.text).1 refl

-- a nonterminal that is mentioned is among the symbols
pub mentioned_stands : (b : NonterminalString) (l : List Symbol) → mentions b l ≡ true → Contains l (Nonterminal b)
mentioned_stands b [] h = absurd (true≢false (sym h))
mentioned_stands b (x ∷ l) h = elim (or_cases (is_named b x) (mentions b l) h) [
  | inl k ↦ subst (λ (y : Symbol). Contains (y ∷ l) (Nonterminal b)) (sym (named_exactly b x k)) (contains_head (Nonterminal b) l)
  | inr k ↦ contains_tail x l (Nonterminal b) (mentioned_stands b l k)
]

pub or_false : (x y : Bool) → (x || y) ≡ false → (x ≡ false) × (y ≡ false)
or_false true y h = cc
or_false false y h = (refl, h)

-- if a nonterminal is not mentioned, no symbol is named so
pub unmentioned : (b : NonterminalString) (l : List Symbol) (x : Symbol) → Contains l x → mentions b l ≡ false → is_named b x ≡ false
unmentioned b [] x c h = absurd (contains-nil c)
unmentioned b (y ∷ l) x c h =
    let r = or_false (is_named b y) (mentions b l) h in
    elim (contains-cons y l x c) [ inl e ↦ ap (is_named b) (sym e) ∙ r.0 | inr k ↦ unmentioned b l x k r.1 ]
