use Rattle.lalrpop_explain.proofs.theory.explained.FirstPaths.{listing_begins, listing_more, listing_ends, listing_stops}
use Rattle.lalrpop_explain.proofs.explain.examples.first_examples.Goals as goal

pub loop-left-init : goal.loop-left-init
loop-left-init c = listing_begins c.args.most c.args.walk c.new-examples.result.items c.requires c.new-examples.ensures.items

pub returns-in-None : goal.returns-in-None
returns-in-None c =
    let given = c.in-None.ensures.steps in
    listing_stops c.args.most c.args.walk c.loop-left.walk c.loop-left.left c.loop-left.examples.items c.loop-left.invariant given.1.0 given.1.1

pub loop-left-preserved : goal.loop-left-preserved
loop-left-preserved c =
    let given = rw c.in_ok-example-in-Some.was at c.in-Some.ensures.steps in
    listing_more c.args.most c.args.walk c.loop-left.walk c.next.new.self c.loop-left.left c.loop-left.examples.items c.push.new.self.items c.in_ok-example-in-Some.field-0 c.loop-left.invariant c.loop-left-test.true given.0 given.1
    c.in_ok-push-in-Some.ensures.items

pub returns : goal.returns
returns c = listing_ends c.args.most c.args.walk c.loop-left.walk c.loop-left.left c.loop-left.examples.items c.loop-left.invariant c.loop-left-test.false
