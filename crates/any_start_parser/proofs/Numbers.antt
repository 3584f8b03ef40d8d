-- The number of the only production of a nonterminal.
use Rattle.std.proofs.Common.{◌≡◌, ⊎_elim, ℕ, ◌+◌, ◌<◌, ◌≤◌, List, Some, slice_get, sym, ap, ◌∙◌, arith}
use Rattle.std.proofs.lemmas.Bool.{cases_lt}
use Rattle.lalrpop_grammar.specs.declared.repr.NonterminalString.{NonterminalString}
use Rattle.lalrpop_grammar.specs.declared.repr.Production.{Production}
use Rattle.lalrpop_collections.proofs.theory.lists.Lists.{same_some}
use Rattle.any_start_parser.specs.Augmented.{IsOf, IsOnlyOf}

module _ (productions : List Production) (name : NonterminalString) where
  -- no production from one number up to another is one of the nonterminal
  abbrev pub NoneWithin : ℕ → ℕ → Type 0
  NoneWithin from to = (k : ℕ) → from ≤ k → k < to → IsOf productions name k → ⊥

  pub none_more : (from to : ℕ) (p : Production) → slice_get productions to ≡ Some p → (p.nonterminal ≡ name → ⊥) → NoneWithin from to → NoneWithin from (to + 1)
  none_more from to p at differs none k least most of = ⊎_elim
      (λ before. none k least before of)
      (λ past.
      let same : k ≡ to = omega (arith, most, past) in
      differs (ap (λ (q : Production). q.nonterminal) (same_some (sym at ∙ ap (slice_get productions) (sym same) ∙ of.1)) ∙ of.2))
      (cases_lt k to)

  pub is_only : (number : ℕ) → IsOf productions name number → NoneWithin 0 number → ((k : ℕ) → number + 1 ≤ k → IsOf productions name k → ⊥) → IsOnlyOf productions name number
  is_only number of before after = record {
    is = of;
    only = λ k other. ⊎_elim
        (λ less. absurd (before k (omega arith) less other))
        (λ from. ⊎_elim
        (λ up_to. omega (arith, from, up_to))
        (λ more. absurd (after k more other))
        (cases_lt k (number + 1)))
        (cases_lt k number);
  }
