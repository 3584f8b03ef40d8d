use Rattle.std.proofs.Common.{inl}
use Rattle.lalrpop_grammar.specs.declared.repr.NonterminalString.{NonterminalString}
use Rattle.lalrpop_useful.specs.Words.{IsAlone, IsAloneAt}
use Rattle.grammar_diagnostics.proofs.CycleSteps.{adds_then}
use Rattle.grammar_diagnostics.proofs.cycle.push_places.Goals as goal

pub loop-place-init : goal.loop-place-init
loop-place-init c = λ b d. inl d

pub loop-place-preserved : goal.loop-place-preserved
loop-place-preserved c =
    let g = c.args.sets.now.productions in
    let l = c.args.symbols.now in
    adds_then (IsAloneAt g l c.loop-place.place) (IsAlone g l) _ _ _ (λ (b : NonterminalString) (h : IsAloneAt g l c.loop-place.place b). (c.loop-place.place, h)) c.loop-place.invariant c.in_ok-push_place.ensures
