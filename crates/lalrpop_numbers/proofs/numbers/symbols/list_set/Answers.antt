use Rattle.std.proofs.Common.{◌≡◌, ◌∙◌, ◌++◌, List, ap, append-nil, subst, sym}
use Rattle.lalrpop_numbers.proofs.Types.{Symbol}
use Rattle.lalrpop_numbers.specs.Words.{SymbolsAscend}
use Rattle.lalrpop_numbers.proofs.numbers.symbols.list_set.Goals as goal

pub returns-clause-ascend : goal.returns-clause-ascend
returns-clause-ascend c =
    let symbols : List Symbol = c.loop-symbol.symbols.items in
    let all : symbols ≡ c.args.set.keys = sym (append-nil symbols) ∙ ap (λ (rest : List Symbol). symbols ++ rest) (sym c.in-None.ensures.steps.0) ∙ c.loop-symbol.invariant in
    subst SymbolsAscend (sym all) c.into_iter-symbol-iterator.ensures.into_iter_gives.4
