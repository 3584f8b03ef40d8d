-- FIRST of a list by that of its names, symbol by symbol.
use Rattle.std.proofs.Common.{◌≡◌, ℕ, ◌+◌, ◌<◌, ◌≤◌, ◌⊎◌, ◌↔◌, inl, inr, Bool, true, false, List, [], ◌∷◌, length, sym, ap, ◌∙◌, Some, ◌||◌, ◌==◌, get_or, drop, eq-eqb, eqb-true}
use Rattle.std.specs.Prelude.{slice_get}
use Rattle.std.proofs.lemmas.Bool.{false≢true, or_cases, or_left, or_right}
use Rattle.std.proofs.lemmas.List.{drop_more, drop_all}
use Rattle.lalrpop_grammar.proofs.Types.{NonterminalString, Symbol, TerminalString}
use Rattle.lalrpop_grammar.specs.declared.repr.Symbol.TheVariants.{Nonterminal, Terminal}
use Rattle.lalrpop_collections.specs.Words.{Bits, has, no_bits, with_bit, join, has-no_bits, has-with_bit, has-join}
use Rattle.lalrpop_grammar.specs.Words.{Rules, IsFirstSet, IsFirstOfName, IsFirstJoined, IsNullable}
use Rattle.lalrpop_grammar.specs.first.First.{IsFirstBit}
use Rattle.lalrpop_grammar.proofs.theory.first.FirstMeaning.{InFirst, First-set, InFirst-nil, InFirst-terminal, InFirst-name}

-- FIRST of a name is joined to a set
pub Name-joined : (g : Rules) (a : NonterminalString) (nullable : Bool) (found old new : Bits) → IsFirstOfName g a nullable found → new ≡ join old found → IsFirstJoined g a nullable old new
Name-joined g a nullable found old new is joined = record {
  told = is.told;
  members = λ bit. let both : has new bit ≡ (has old bit || has found bit) = ap (λ s. has s bit) joined ∙ has-join old found bit in (
    λ h. elim (or_cases (has old bit) (has found bit) (sym both ∙ h)) [ inl o ↦ inl o | inr f ↦ inr ((is.begins bit).0 f) ],
    λ r. both ∙ elim r [ inl o ↦ or_left (has old bit) (has found bit) o | inr f ↦ or_right (has old bit) (has found bit) ((is.begins bit).1 f) ],
  );
}

module _ (g : Rules) (l : List Symbol) where
  -- the set has the terminals with which the symbols before the place can begin, and these symbols
  -- are nullable
  pub record FirstSoFar (set : Bits) (index : ℕ) : Type 0 where
    pub right : (bit : ℕ) → has set bit ≡ true → InFirst g l bit
    pub onward : (bit : ℕ) → InFirst g (drop index l) bit → InFirst g l bit
    pub all : (bit : ℕ) → InFirst g l bit → (has set bit ≡ true) ⊎ InFirst g (drop index l) bit

  pub First-init : (set : Bits) → set ≡ no_bits → FirstSoFar set 0
  First-init set e = record {
    right = λ bit h. absurd (false≢true (sym (ap (λ s. has s bit) e ∙ has-no_bits bit) ∙ h));
    onward = λ bit f. f;
    all = λ bit f. inr f;
  }

  -- FIRST of the rest is one bit
  First-one : (set new : Bits) (index b : ℕ) → FirstSoFar set index → ((bit : ℕ) → InFirst g (drop index l) bit ↔ (bit ≡ b)) → new ≡ with_bit set b → IsFirstSet g l new
  First-one set new index b h only e = First-set g l new (λ bit. let written : has new bit ≡ ((bit == b) || has set bit) = ap (λ s. has s bit) e ∙ has-with_bit set b bit in (
    λ t. elim (or_cases (bit == b) (has set bit) (sym written ∙ t)) [ inl same ↦ h.onward bit ((only bit).1 (eqb-true bit b same)) | inr o ↦ h.right bit o ],
    λ f. written ∙ elim (h.all bit f) [ inl o ↦ or_right (bit == b) (has set bit) o | inr rest ↦ or_left (bit == b) (has set bit) (eq-eqb bit b ((only bit).0 rest)) ],
  ))

  pub First-end : (set new : Bits) (index : ℕ) → FirstSoFar set index → length l ≤ index → new ≡ with_bit set (length g.terminals) → IsFirstSet g l new
  First-end set new index h past e = First-one set new index (length g.terminals) h (λ bit. rw (drop_all index l past) (InFirst-nil g bit)) e

  module _ (set : Bits) (index : ℕ) (x : Symbol) (within : index < length l) (is : x ≡ get_or l index x) (h : FirstSoFar set index) where
    rest_is : drop index l ≡ x ∷ drop (index + 1) l
    rest_is = drop_more l index x within ∙ ap (λ (y : Symbol). y ∷ drop (index + 1) l) (sym is)

    pub First-terminal : (t : TerminalString) (b : ℕ) (new : Bits) → x ≡ Terminal t → slice_get g.terminals b ≡ Some t → ((bit : ℕ) → slice_get g.terminals bit ≡ Some t → b ≡ bit) → new ≡ with_bit set b → IsFirstSet g l new
    First-terminal t b new e at only written = First-one set new index b h (λ bit. rw (rest_is, e) (InFirst-terminal g t (drop (index + 1) l) b bit at (only bit))) written

    module _ (a : NonterminalString) (nullable : Bool) (new : Bits) (e : x ≡ Nonterminal a) (j : IsFirstJoined g a nullable set new) where
      at_name : (bit : ℕ) → InFirst g (drop index l) bit ↔ (IsFirstBit g (Nonterminal a ∷ []) bit ⊎ (IsNullable g.productions (Nonterminal a ∷ []) × InFirst g (drop (index + 1) l) bit))
      at_name bit = rw (rest_is, e) (InFirst-name g a (drop (index + 1) l) bit)

      right : (bit : ℕ) → has new bit ≡ true → InFirst g l bit
      right bit t = elim ((j.members bit).0 t) [ inl o ↦ h.right bit o | inr f ↦ h.onward bit ((at_name bit).1 (inl f)) ]

      all : (bit : ℕ) → InFirst g l bit → (has new bit ≡ true) ⊎ (IsNullable g.productions (Nonterminal a ∷ []) × InFirst g (drop (index + 1) l) bit)
      all bit f = elim (h.all bit f) [
        | inl o ↦ inl ((j.members bit).1 (inl o))
        | inr r ↦ elim ((at_name bit).0 r) [ inl k ↦ inl ((j.members bit).1 (inr k)) | inr k ↦ inr k ]
      ]

      -- after a nullable name the list goes on
      pub First-passed : nullable ≡ true → FirstSoFar new (index + 1)
      First-passed t = record {
        right = right;
        onward = λ bit f. h.onward bit ((at_name bit).1 (inr (j.told.0 t, f)));
        all = λ bit f. elim (all bit f) [ inl o ↦ inl o | inr k ↦ inr k.1 ];
      }

      -- after a name that is not nullable the list ends
      pub First-stopped : nullable ≡ false → IsFirstSet g l new
      First-stopped t = First-set g l new (λ bit. (right bit, λ f. elim (all bit f) [ inl o ↦ o | inr k ↦ absurd (false≢true (sym t ∙ j.told.1 k.0)) ]))
