use Rattle.lalrpop_useful.proofs.theory.useful.Repeats.{Places-none, Places-more, Places-all}
use Rattle.lalrpop_useful.proofs.repeats.add_repeats.Goals as goal

pub loop-place-init : goal.loop-place-init
loop-place-init c = Places-none c.args.productions.now c.args.repeats.now.items

pub loop-place-preserved : goal.loop-place-preserved
loop-place-preserved c = Places-more c.args.productions.now c.loop-place.place _ _ _ c.loop-place.invariant c.in_ok-add_repeat.ensures

pub returns : goal.returns
returns c = Places-all c.args.productions.now c.loop-place.place _ _ c.loop-place-test.false c.loop-place.invariant
