-- The sides of productions, while they are listed.
use Rattle.std.proofs.Common.{◌≡◌, ⊎_elim, ℕ, List, [], ◌∷◌, ◌++◌, length, slice_get, Some, refl, sym, ◌∙◌, ap, subst}
use Rattle.lalrpop_grammar.specs.declared.repr.NonterminalString.{NonterminalString}
use Rattle.lalrpop_grammar.specs.declared.repr.Production.{Production}
use Rattle.lalrpop_collections.proofs.theory.lists.Places.{push_cases}
use Rattle.parse_tables.specs.Codes.{AreSides}

-- the side of one more production was added
pub more_sides : (names : List NonterminalString) (ps : List Production) (sides : List (ℕ × ℕ)) (p : Production) (side : ℕ × ℕ) → slice_get ps (length sides) ≡ Some p → AreSides names (p ∷ []) (side ∷ []) → AreSides names ps sides → AreSides names ps (sides ++ side ∷ [])
more_sides names ps sides p side at is sided k q other at_q at_s = ⊎_elim
    (λ old. sided k q other at_q old)
    (λ last.
    let same : Some p ≡ Some q = sym at ∙ ap (slice_get ps) (sym last.0) ∙ at_q in
    let is_p : p ≡ q = cc in
    subst (λ (s : ℕ × ℕ). (slice_get names s.0 ≡ Some q.nonterminal) × (s.1 ≡ length q.symbols)) last.1
    (subst (λ (x : Production). (slice_get names side.0 ≡ Some x.nonterminal) × (side.1 ≡ length x.symbols)) is_p (is 0 p side refl refl)))
    (push_cases sides side k other at_s)
