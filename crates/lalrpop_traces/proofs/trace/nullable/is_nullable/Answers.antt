use Rattle.std.proofs.Common.{List, refl, sym, subst}
use mathlib.Core.Bool.{true≢false}
use Rattle.std.proofs.lemmas.List.{drop_all}
use Rattle.lalrpop_base.specs.Words.{IsNullable}
use Rattle.lalrpop_traces.proofs.Types.{Symbol}
use Rattle.lalrpop_grammar.proofs.theory.grammars.Forests.{nullable-nil}
use Rattle.lalrpop_traces.proofs.theory.traces.Nullable.{null_on, null_stops}
use Rattle.lalrpop_traces.proofs.trace.nullable.is_nullable.Goals as goal

pub loop-symbol-preserved : goal.loop-symbol-preserved
loop-symbol-preserved c =
    null_on c.args.first_sets.now.productions c.args.symbols.now c.loop-symbol.symbol-index c.symbol-item.result c.loop-symbol-test.true c.symbol-item.is c.loop-symbol.invariant (c.if-not-is_nullable_symbol.ensures.0 refl)

pub returns-then-not-is_nullable_symbol : goal.returns-then-not-is_nullable_symbol
returns-then-not-is_nullable_symbol c = (
  λ h. absurd (true≢false (sym h)),
  λ d. absurd (null_stops c.args.first_sets.now.productions c.args.symbols.now c.loop-symbol.symbol-index c.symbol-item.result c.loop-symbol-test.true c.symbol-item.is c.loop-symbol.invariant
      (λ n. true≢false (sym (c.if-not-is_nullable_symbol.ensures.1 n))) d),
)

pub returns : goal.returns
returns c =
    let P : List Symbol → Type 0 = IsNullable c.args.first_sets.now.productions in
    (λ h. c.loop-symbol.invariant.0 (subst P (sym (drop_all c.loop-symbol.symbol-index c.args.symbols.now c.loop-symbol-test.false)) nullable-nil), λ d. refl)
