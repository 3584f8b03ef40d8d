use Rattle.std.proofs.Common.{◌+◌, ◌++◌, length, refl, sym, subst}
use Rattle.lalrpop_traces.specs.Words.{Meeting, asked, duties_of, duties_left, AreNamed, IsStep}
use Rattle.lalrpop_traces.specs.declared.trace.walk_back.Task.{Task}
use Rattle.lalrpop_traces.specs.declared.trace.walk_back.Task.TheVariants.{MeetItems}
use Rattle.lalrpop_traces.proofs.theory.traces.TraceSteps.{named_rest, step_known, step_met}
use Rattle.lalrpop_traces.proofs.trace.walk_back.step.Goals as goal

pub meet_items-requires : goal.meet_items-requires
meet_items-requires c =
    let b = asked c.args.trace.now in
    record { named = named_rest b (duties_of b c.args.task) (duties_left b c.args.tasks.now.items) c.requires.named }

pub returns-in_ok-push-in-Meet : goal.returns-in_ok-push-in-Meet
returns-in_ok-push-in-Meet c =
    let b = asked c.args.trace.now in
    let tasks = c.args.tasks.now.items in
    let m : Meeting = (c.in-Meet.state, c.in-Meet.name.now) in
    let P : Task → Type 0 = λ t. IsStep b c.args.met.now c.is_new.new.met (duties_of b t ++ duties_left b tasks) (length tasks + 1) c.push.new.self.items in
    let Q : Task → Type 0 = λ t. AreNamed b (duties_of b t ++ duties_left b tasks) in
    subst P (sym c.in-Meet.is)
    (step_met b tasks c.args.met.now c.is_new.new.met c.in_ok-is_new-in-Meet.field-0 m c.in_ok-is_new-in-Meet.ensures.inserted c.in_ok-is_new-in-Meet.ensures.graph (subst Q c.in-Meet.is c.requires.named) c.if-branch.true
    (MeetItems c.in-Meet.state c.in-Meet.name 0) c.push.new.self.items refl c.in_ok-push-in-Meet.ensures.items)

pub returns-else-branch : goal.returns-else-branch
returns-else-branch c =
    let b = asked c.args.trace.now in
    let tasks = c.args.tasks.now.items in
    let m : Meeting = (c.in-Meet.state, c.in-Meet.name.now) in
    let P : Task → Type 0 = λ t. IsStep b c.args.met.now c.is_new.new.met (duties_of b t ++ duties_left b tasks) (length tasks + 1) tasks in
    let Q : Task → Type 0 = λ t. AreNamed b (duties_of b t ++ duties_left b tasks) in
    subst P (sym c.in-Meet.is) (step_known b tasks c.args.met.now c.is_new.new.met c.in_ok-is_new-in-Meet.field-0 m c.in_ok-is_new-in-Meet.ensures.inserted c.in_ok-is_new-in-Meet.ensures.graph (subst Q c.in-Meet.is c.requires.named) c.if-branch.false)
