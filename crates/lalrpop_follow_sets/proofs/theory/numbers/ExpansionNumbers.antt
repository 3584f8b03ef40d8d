-- The numbers of the productions of a nonterminal with the dot at the start, one item after the
-- other.
use Rattle.std.proofs.Common.{◌≡◌, ◌∙◌, inl, inr, ℕ, List, [], ◌∷◌, ◌++◌, length, sym, ap, subst}
use Rattle.std.specs.Prelude.{slice_get, Some, Contains}
use Rattle.std.proofs.lemmas.List.Elements.{Contains-append_left, Contains-append_right, Contains-append_cases}
use Rattle.lalrpop_base.specs.Words.{Dotted, AreExpansions}
use Rattle.lalrpop_follow_sets.proofs.Types.{Nil, NonterminalString}
use Rattle.lalrpop_grammar.specs.declared.repr.Symbol.TheVariants.{Nonterminal}
use Rattle.lalrpop_collections.proofs.theory.lists.Members.{contains-cons, contains_head, Contains-none}
use Rattle.lalrpop_collections.proofs.theory.lists.Places.{push_cases, slice_get-longer, slice_get-push_at}

-- no items have no such numbers
pub Expansions-none : (a : NonterminalString) → AreExpansions [] (Nonterminal a) []
Expansions-none a k = (λ c. absurd (Contains-none k c), λ i. absurd (no_item i.0 i.1))
  where
    no_item : (i : Dotted Nil) → slice_get [] k ≡ Some i → ⊥
    no_item i at = cc

module _ (done : List (Dotted Nil)) (i : Dotted Nil) (a : NonterminalString) (old : List ℕ) (before : AreExpansions done (Nonterminal a) old) where
  -- one item more that is such a production
  pub Fronts-more : i.index ≡ 0 → i.production.nonterminal ≡ a → AreExpansions (done ++ i ∷ []) (Nonterminal a) (old ++ length done ∷ [])
  Fronts-more expansion name k = (
    λ c. elim (Contains-append_cases old (length done ∷ []) k c) [
      | inl was ↦ let j = (before k).0 was in (j.0, slice_get-longer done (i ∷ []) k j.0 j.1, j.2, j.3)
      | inr last ↦ elim (contains-cons (length done) [] k last) [
        | inl e ↦ (i, ap (slice_get (done ++ i ∷ [])) (sym e) ∙ slice_get-push_at done i, expansion, ap Nonterminal (sym name))
        | inr none ↦ absurd (Contains-none k none)
      ]
    ],
    λ j. elim (push_cases done i k j.0 j.1) [
      | inl was ↦ Contains-append_left old (length done ∷ []) k ((before k).1 (j.0, was, j.2, j.3))
      | inr end ↦ Contains-append_right old (length done ∷ []) k (subst (λ (n : ℕ). Contains (n ∷ []) k) end.0 (contains_head k []))
    ],
  )

  -- one item more that is no such production
  pub Fronts-same : (i.index ≡ 0 → i.production.nonterminal ≡ a → ⊥) → AreExpansions (done ++ i ∷ []) (Nonterminal a) old
  Fronts-same other k = (
    λ c. let j = (before k).0 c in (j.0, slice_get-longer done (i ∷ []) k j.0 j.1, j.2, j.3),
    λ j. elim (push_cases done i k j.0 j.1) [
      | inl was ↦ (before k).1 (j.0, was, j.2, j.3)
      | inr end ↦ absurd (other (ap (λ (d : Dotted Nil). d.index) end.1 ∙ j.2) (ap (λ (d : Dotted Nil). d.production.nonterminal) end.1 ∙ names j.0.production.nonterminal j.3))
    ],
  )
    where
      names : (b : NonterminalString) → Nonterminal a ≡ Nonterminal b → b ≡ a
      names b e = cc
