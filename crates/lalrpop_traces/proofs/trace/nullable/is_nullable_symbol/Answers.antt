use Rattle.std.proofs.Common.{[], ◌∷◌, sym, subst}
use mathlib.Core.Bool.{true≢false}
use Rattle.lalrpop_base.specs.Words.{IsNullable}
use Rattle.lalrpop_traces.proofs.Types.{Symbol}
use Rattle.lalrpop_traces.proofs.theory.traces.Nullable.{terminal_not_nullable}
use Rattle.lalrpop_traces.proofs.trace.nullable.is_nullable_symbol.Goals as goal

pub returns-in-Terminal : goal.returns-in-Terminal
returns-in-Terminal c =
    let g = c.args.first_sets.now.productions in
    let P : Symbol → Type 0 = λ x. IsNullable g (x ∷ []) in
    (λ h. absurd (true≢false (sym h)), λ d. absurd (terminal_not_nullable g c.in-Terminal.field-0 (subst P c.in-Terminal.is d)))
