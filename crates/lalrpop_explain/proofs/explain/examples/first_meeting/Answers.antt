use Rattle.lalrpop_explain.proofs.theory.explained.FirstMeetings.{known_same, filtering_begins, filtering_more, filtering_ends, filtering_stops}
use Rattle.lalrpop_explain.proofs.explain.examples.first_meeting.Goals as goal

pub loop-left-init : goal.loop-left-init
loop-left-init c = record { known = c.requires.known; filtering = filtering_begins c.args.most c.args.walk c.new-examples.result.items c.requires.refused c.new-examples.ensures.items }

pub returns-in-None : goal.returns-in-None
returns-in-None c =
    let given = c.in-None.ensures.steps in
    filtering_stops c.args.most c.args.walk c.loop-left.walk c.loop-left.left c.loop-left.examples.items c.loop-left.invariant.filtering given.1.0 given.1.1

pub loop-left-preserved : goal.loop-left-preserved
loop-left-preserved c =
    let given = rw c.in_ok-example-in-Some.was at c.in-Some.ensures.steps in record {
      known = known_same c.loop-left.walk c.next.new.self given.0 c.loop-left.invariant.known;
      filtering =
          filtering_more c.args.most c.args.walk c.loop-left.walk c.next.new.self c.loop-left.left c.loop-left.examples.items c.push.new.self.items c.in_ok-example-in-Some.field-0 c.loop-left.invariant.filtering c.loop-left-test.true given.0 given.1
          c.in_ok-push-in-Some.ensures.items;
    }

pub returns : goal.returns
returns c = filtering_ends c.args.most c.args.walk c.loop-left.walk c.loop-left.left c.loop-left.examples.items c.loop-left.invariant.filtering c.loop-left-test.false
