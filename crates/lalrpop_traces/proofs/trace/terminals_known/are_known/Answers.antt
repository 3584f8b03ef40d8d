use Rattle.std.proofs.Common.{List, [], ◌∷◌, ◌++◌, take, refl, sym, ◌∙◌, ap, subst, arith}
use Rattle.std.proofs.lemmas.List.{take_more, take_all}
use Rattle.lalrpop_base.specs.Words.{HasKnownTerminals}
use Rattle.lalrpop_traces.proofs.Types.{Symbol}
use Rattle.lalrpop_traces.proofs.theory.traces.KnownLabels.{known_more}
use Rattle.lalrpop_traces.proofs.trace.terminals_known.are_known.Goals as goal

pub loop-symbol-preserved : goal.loop-symbol-preserved
loop-symbol-preserved c =
    let xs = c.args.symbols.now in
    let i = c.loop-symbol.symbol-index in
    let x = c.symbol-item.result in
    known_more c.args.terminals.now (take i xs) (x ∷ []) _ (take_more xs i x (omega arith) ∙ ap (λ y. take i xs ++ y ∷ []) (sym c.symbol-item.is)) c.loop-symbol.invariant (c.if-not-is_known.ensures.0 refl)

pub returns : goal.returns
returns c =
    let P : List Symbol → Type 0 = HasKnownTerminals c.args.terminals.now in
    (λ h. subst P (take_all c.loop-symbol.symbol-index c.args.symbols.now (omega arith)) c.loop-symbol.invariant, λ h. refl)
