-- The symbols after the nonterminal after a dot.
use Rattle.std.proofs.Common.{◌≡◌, ◌∙◌, inl, inr, ℕ, ◌+◌, ◌<◌, ◌≤◌, Bool, true, false, List, [], ◌∷◌, ◌++◌, drop, length, refl, sym, ap, subst, arith, eqb-true, eq-eqb}
use Rattle.std.specs.Prelude.{slice_get, Option, Some, not, ◌&&◌, ◌==◌}
use Rattle.std.proofs.lemmas.Bool.{cases_lt, true≢false}
use Rattle.std.proofs.lemmas.Option.{slice_get_within}
use Rattle.lalrpop_grammar.specs.Words.{IsFirstSet, Rules}
use Rattle.lalrpop_collections.specs.Words.{Bits, has, both}
use Rattle.lalrpop_states.specs.Words.{Dotted}
use Rattle.lalrpop_numbers.specs.Words.{AreSuffixes, HasSuffix, IsSuffix, IsSuffixOf}
use Rattle.lalrpop_numbers.proofs.Types.{Nil, NonterminalString, Symbol, TerminalString}
use Rattle.lalrpop_grammar.specs.declared.repr.Symbol.TheVariants.{Nonterminal, Terminal}
use Rattle.lalrpop_numbers.specs.declared.numbers.suffixes.Suffix.{Suffix}
use Rattle.lalrpop_states.proofs.theory.closures.Closing.{drop_split, rest_from, split_drop}
use Rattle.lalrpop_collections.proofs.theory.lists.Members.{Contains-none}
use Rattle.lalrpop_collections.proofs.theory.lists.Places.{contains_at, filled, same_some}
use Rattle.lalrpop_collections.proofs.theory.lists.Zipped.{push_both, push_counted}

-- ---- the rest of one dotted production
-- a dotted production with a terminal after its dot has no rest
pub no_rest : (i : Dotted Nil) (s : Symbol) (t : TerminalString) → slice_get i.production.symbols i.index ≡ Some s → s ≡ Terminal t → (a : NonterminalString) (after : List Symbol) → ¬ HasSuffix i a after
no_rest i s t at is a after behind =
    let there : slice_get i.production.symbols i.index ≡ Some (Nonterminal a) = split_drop i.index i.production.symbols (Nonterminal a) after behind in
    apart (same_some s (Nonterminal a) (sym at ∙ there))
  where
    apart : s ≡ Nonterminal a → ⊥
    apart e = cc

-- the symbols after a nonterminal after the dot make the rest
pub rest_behind : (i : Dotted Nil) (s : Symbol) (a : NonterminalString) (after : List Symbol) → slice_get i.production.symbols i.index ≡ Some s → s ≡ Nonterminal a → after ≡ drop (i.index + 1) i.production.symbols → HasSuffix i a after
rest_behind i s a after at is rest =
    drop_split i.index i.production.symbols (Nonterminal a) (at ∙ ap Some is) ∙ ap (λ (xs : List Symbol). Nonterminal a ∷ xs) (sym (rest_from i.index i.production.symbols after rest))

-- a conjunction of two true values is true
and_true : (a b : Bool) → a ≡ true → b ≡ true → (a && b) ≡ true
and_true true true g h = refl
and_true true false g h = cc
and_true false b g h = cc

-- FIRST of the symbols without Eof, and whether Eof was in it
pub rest_is : (g : Rules) (after : List Symbol) (old new : Bits) (nullable : Bool) (end : ℕ) → end ≡ length g.terminals → IsFirstSet g after old → nullable ≡ has old end → ((bit : ℕ) → has new bit ≡ (has old bit && not (bit == end))) →
    IsSuffix g after (record { first = new; nullable = nullable })
rest_is g after old new nullable end is first was left = record {
  first = λ bit. (
    λ h.
        let parts = both (has old bit) (not (bit == end)) (sym (left bit) ∙ h) in
        let below : bit < length g.terminals = within bit (first.fits bit parts.0) (bit == end) refl parts.1 in
        let t = filled g.terminals bit below in
        (t.0, t.1, (first.begins bit t.0 t.1).0 parts.0),
    λ h.
        let l : bit < length g.terminals = slice_get_within g.terminals bit h.0 h.1 in
        left bit ∙ and_true (has old bit) (not (bit == end)) ((first.begins bit h.0 h.1).1 h.2) (other bit l (bit == end) refl),
  );
  nullable = (λ h. first.ends.0 (ap (has old) (sym is) ∙ sym was ∙ h), λ h. was ∙ ap (has old) is ∙ first.ends.1 h);
}
  where
    within : (bit : ℕ) → bit ≤ length g.terminals → (b : Bool) → (bit == end) ≡ b → not b ≡ true → bit < length g.terminals
    within bit most true e h = cc
    within bit most false e h = elim (cases_lt bit (length g.terminals)) [
      | inl l ↦ l
      | inr l ↦ let same : bit ≡ end = omega (arith, is, l, most) in absurd (true≢false (sym (eq-eqb bit end same) ∙ e))
    ]

    other : (bit : ℕ) → bit < length g.terminals → (b : Bool) → (bit == end) ≡ b → not b ≡ true
    other bit l true e = let same = eqb-true bit end e in absurd (omega (arith, is, l, same))
    other bit l false e = refl

-- ---- the suffixes, and one more
-- no items have no suffixes
pub suffixes_none : (g : Rules) → AreSuffixes g [] []
suffixes_none g = record { counted = refl; each = λ k i rest at. absurd (Contains-none i (contains_at [] i k at)) }

-- one more item has its rest
pub suffixes_more : (g : Rules) (items : List (Dotted Nil)) (suffixes : List (Option Suffix)) (i : Dotted Nil) (rest : Option Suffix) → AreSuffixes g items suffixes → IsSuffixOf g i rest → AreSuffixes g (items ++ i ∷ []) (suffixes ++ rest ∷ [])
suffixes_more g items suffixes i rest before is = record {
  counted = push_counted items i suffixes rest before.counted;
  each = λ k j found at_j at_found. elim (push_both items i suffixes rest before.counted k j found at_j at_found) [
    | inl was ↦ before.each k j found was.0 was.1
    | inr new ↦ subst (λ (d : Dotted Nil). IsSuffixOf g d found) new.1 (subst (IsSuffixOf g i) new.2 is)
  ];
}
