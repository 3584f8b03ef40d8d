use Rattle.std.proofs.Common.{◌≡◌, List, length, refl}
use Rattle.std.specs.Prelude.{slice_get, Some}
use Rattle.std.proofs.lemmas.Option.{slice_get_read}
use Rattle.lalrpop_grammar.specs.Words.{as_it_is}
use Rattle.lalrpop_grammar.specs.declared.repr.Symbol.{Symbol}
use Rattle.lalrpop_useful.proofs.theory.useful.Cycles.{Nullable-more}
use Rattle.grammar_diagnostics.proofs.cycle.are_nullable.Goals as goal

pub loop-symbol-init : goal.loop-symbol-init
loop-symbol-init c = as_it_is

pub returns-then-not-is_nullable : goal.returns-then-not-is_nullable
returns-then-not-is_nullable c = λ h. cc

pub loop-symbol-preserved : goal.loop-symbol-preserved
loop-symbol-preserved c =
    let l : List Symbol = c.args.symbols.now in
    let i = c.loop-symbol.symbol-index in
    let x : Symbol = c.symbol-item.result in
    let at : slice_get l i ≡ Some x = slice_get_read l (length l) i x refl c.loop-symbol-test.true c.symbol-item.is in
    Nullable-more c.args.sets.now.productions l i x at c.loop-symbol.invariant (c.if-not-is_nullable.ensures refl)
