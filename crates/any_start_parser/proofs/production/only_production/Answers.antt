use Rattle.std.proofs.Common.{◌≡◌, ℕ, true, List, Option, Some, None, refl, sym, subst, ◌∙◌, arith}
use Rattle.std.specs.Option.{is_some}
use Rattle.std.specs.Prelude.{IfSome, ◌≤◌, ◌<◌, ◌+◌, length}
use Rattle.lalrpop_grammar.specs.declared.repr.Production.{Production}
use Rattle.any_start_parser.specs.Augmented.{IsOf, IsOnlyOf}
use Rattle.any_start_parser.proofs.Numbers.{is_only}
use Rattle.any_start_parser.proofs.production.only_production.Goals as goal

there : (o : Option ℕ) → is_some o ≡ true → (n : ℕ) × (o ≡ Some n)
there (Some n) e = (n, refl)
there None e = cc

pub returns-in_default-clause-absent : goal.returns-in_default-clause-absent
returns-in_default-clause-absent c = λ none number small only.
    c.in_default.ensures.absent refl number (omega arith) (subst (λ (ps : List Production). IsOf ps c.args.name.now number) (sym c.productions-productions.ensures) only.is)

pub returns-then-is_some-clause-absent : goal.returns-then-is_some-clause-absent
returns-then-is_some-clause-absent c = λ none number small only.
    let productions = c.productions-productions.result.now in
    let name = c.args.name.now in
    let first = c.in-Some.first in
    let own = subst (λ (ps : List Production). IsOnlyOf ps name number) (sym c.productions-productions.ensures) only in
    let second = there c.production_from-2.result (sym c.is_some.ensures ∙ c.if-is_some.true) in
    let of : IsOf productions name second.0 = subst (λ (o : Option ℕ). IfSome o (IsOf productions name)) second.1 c.production_from-2.ensures.found in
    let later : first + 1 ≤ second.0 = (subst (λ (o : Option ℕ). IfSome o (λ n. (first + 1 ≤ n) × (n < length productions))) second.1 c.production_from-2.ensures.within).0 in
    let one : first ≡ number = own.only first c.in-Some.ensures.found in
    let other : second.0 ≡ number = own.only second.0 of in
    omega (arith, later, one, other)

pub returns-in-Ok-clause-found : goal.returns-in-Ok-clause-found
returns-in-Ok-clause-found c =
    let name = c.args.name.now in
    let only = is_only c.productions-productions.result.now name c.in-Some.first c.in-Some.ensures.found c.in-Some.ensures.first (c.production_from-2.ensures.absent (sym c.is_some.ensures ∙ c.if-is_some.false)) in
    subst (λ n. IsOnlyOf c.args.table.now.productions name n) (sym c.in-Ok.ensures.1) (subst (λ (ps : List Production). IsOnlyOf ps name c.in-Some.first) c.productions-productions.ensures only)

pub returns-in-Err-clause-absent : goal.returns-in-Err-clause-absent
returns-in-Err-clause-absent c = λ none number small only.
    let own = subst (λ (ps : List Production). IsOnlyOf ps c.args.name.now number) (sym c.productions-productions.ensures) only in
    let one : c.in-Some.first ≡ number = own.only c.in-Some.first c.in-Some.ensures.found in
    omega (arith, small, one, c.in-Err.ensures)
