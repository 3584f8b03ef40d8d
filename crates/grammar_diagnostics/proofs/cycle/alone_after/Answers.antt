use Rattle.std.proofs.Common.{◌≡◌, List, ap, refl, length, subst}
use Rattle.std.specs.Prelude.{Some, slice_get}
use Rattle.std.proofs.lemmas.Option.{slice_get_read}
use Rattle.lalrpop_grammar.specs.Words.{Rules, productions}
use Rattle.lalrpop_grammar.specs.declared.repr.Production.{Production}
use Rattle.lalrpop_useful.specs.Words.{IsAloneOn}
use Rattle.grammar_diagnostics.proofs.CycleSteps.{alone_more}
use Rattle.grammar_diagnostics.proofs.cycle.alone_after.Goals as goal

pub loop-production-preserved : goal.loop-production-preserved
loop-production-preserved c =
    let g = productions c.args.grammar.now in
    let ps : List Production = c.productions_for-productions.result.now in
    let i = c.loop-production.production-index in
    let p : Production = c.production-item.result in
    let same : c.args.sets.now.productions ≡ g = ap (λ (r : Rules). r.productions) c.requires in
    let at : slice_get ps i ≡ Some p = slice_get_read ps (length ps) i p refl c.loop-production-test.true c.production-item.is in
    alone_more c.args.sets.now.productions g ps i p _ _ _ same at c.as_slice.ensures c.loop-production.invariant c.in_ok-push_places.ensures

pub returns : goal.returns
returns c b d = subst (λ (ps : List Production). IsAloneOn (productions c.args.grammar.now) ps b) c.productions_for-productions.ensures (c.loop-production.invariant b d)
