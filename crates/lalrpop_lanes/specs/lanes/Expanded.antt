-- `==` of nonterminals that are expanded in states is exact.
use Rattle.std.specs.Prelude.{◌≡◌, ℕ, true, ◌==◌, ◌&&◌}
use Rattle.std.proofs.Common.{ap, ◌∙◌, eqb-true}
use lib.Pointwise.{pointwise}
use Rattle.lalrpop_base.specs.Words.{both, name_exact}
use Rattle.lalrpop_grammar.specs.declared.repr.NonterminalString.{NonterminalString}

pub expanded_exact : (a b : ℕ × NonterminalString) → ((a.0 == b.0) && pointwise ◌==◌ (a.1).text (b.1).text) ≡ true → a ≡ b
expanded_exact a b h =
    let pair : ℕ → NonterminalString → ℕ × NonterminalString = λ n x. (n, x) in
    let parts = both (a.0 == b.0) (pointwise ◌==◌ (a.1).text (b.1).text) h in
    ap (λ n. pair n a.1) (eqb-true _ _ parts.0) ∙ ap (λ x. pair b.0 x) (name_exact a.1 b.1 parts.1)
