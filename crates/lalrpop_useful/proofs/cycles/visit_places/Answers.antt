use Rattle.lalrpop_useful.proofs.theory.useful.Cycles.{Below-none, Below-more, Below-all}
use Rattle.lalrpop_useful.proofs.cycles.visit_places.Goals as goal

pub loop-place-init : goal.loop-place-init
loop-place-init c = Below-none c.args.sets.now.productions c.args.symbols.now c.args.walk.now

pub loop-place-preserved : goal.loop-place-preserved
loop-place-preserved c = Below-more c.args.sets.now.productions c.args.symbols.now c.loop-place.place _ _ _ c.loop-place.invariant c.in_ok-visit_place.ensures

pub returns : goal.returns
returns c = Below-all c.args.sets.now.productions c.args.symbols.now c.loop-place.place _ _ c.loop-place-test.false c.loop-place.invariant
