use Rattle.std.proofs.Common.{◌≡◌, ◌∙◌, Some, ap, sym}
use Rattle.lalrpop_base.specs.Words.{Bits}
use Rattle.lalrpop_collections.proofs.theory.lists.Lists.{some≢none}
use Rattle.lalrpop_collections.proofs.theory.lists.Places.{same_some}
use Rattle.lalrpop_numbers.specs.declared.numbers.suffixes.Suffix.{Suffix}
use Rattle.canonical_by_number.proofs.TokenSets.{keeps_all}
use Rattle.canonical_by_number.proofs.states.first_number.Goals as goal

pub returns-in_default-clause-kept : goal.returns-in_default-clause-kept
returns-in_default-clause-kept c = keeps_all c.args.sets.now

pub returns-in_default-clause-number : goal.returns-in_default-clause-number
returns-in_default-clause-number c = λ rest is. absurd (some≢none (sym is ∙ c.in_default.is))

pub returns-clause-number : goal.returns-clause-number
returns-clause-number c = λ rest is.
    let same : c.in-Some.suffix ≡ rest = same_some c.in-Some.suffix rest (sym c.in-Some.is ∙ is) in
    c.in_ok-number.ensures.number ∙ ap (λ (s : Bits). Some s) c.in_ok-first.ensures ∙ ap (λ (r : Suffix). Some r.first) same
