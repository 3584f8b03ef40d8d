use Rattle.std.proofs.Common.{◌≡◌, ◌++◌, sym, ◌∙◌, ap, subst, refl}
use mathlib.Core.Bool.{true≢false}
use Rattle.lalrpop_base.specs.Words.{Bits, Dotted}
use Rattle.lalrpop_traces.proofs.Types.{Production}
use Rattle.lalrpop_state_graph.specs.Words.{edges}
use Rattle.lalrpop_traces.specs.Words.{Meeting, come_to_each, asked, duties_left}
use Rattle.lalrpop_traces.specs.declared.trace.walk_back.Met.{Met}
use Rattle.lalrpop_traces.proofs.theory.traces.TraceOrder.{are_sources}
use Rattle.lalrpop_traces.proofs.theory.traces.TraceSteps.{step_stop, step_on}
use Rattle.lalrpop_traces.proofs.theory.traces.Traces.{on_ok_both}
use Rattle.lalrpop_traces.proofs.trace.walk_back.meet_item.Goals as goal

pub returns-then-not-branch : goal.returns-then-not-branch
returns-then-not-branch c =
    let met : Met = record { trace_graph = c.add_shifting.new.graph; places = c.add_shifting.new.places; visited_set = c.args.met.now.visited_set } in
    step_stop (asked c.args.trace.now) c.args.tasks.now.items (c.args.state, c.args.name.now) c.args.item.now c.requires.named c.args.met.now met refl c.requires.takes
    (λ on. true≢false (sym (c.in_ok-add_shifting.ensures.on.1 on) ∙ c.if-not-branch.true)) (c.in_ok-add_shifting.ensures.stopped c.if-not-branch.true)

pub returns : goal.returns
returns c =
    let b = asked c.args.trace.now in
    let item = c.args.item.now in
    let m : Meeting = (c.args.state, c.args.name.now) in
    let met : Met = record { trace_graph = c.add_shifting.new.graph; places = c.add_shifting.new.places; visited_set = c.args.met.now.visited_set } in
    let p : c.item.inside.production.now ≡ item.production = ap (λ (i : Dotted Bits). i.production) c.item.view_is in
    let found = c.in_ok-sources.sources.items in
    let P : Production → Type 0 = λ q. duties_left b c.push_sources.new.tasks.items ≡ come_to_each q found ++ duties_left b c.args.tasks.now.items in
    on_ok_both c.push_sources.result c.push_sources.ensures.duties c.push_sources.ensures.count (λ duties count.
    step_on b c.args.tasks.now.items m item c.requires.named c.args.met.now met refl c.requires.takes (c.in_ok-add_shifting.ensures.on.0 c.if-not-branch.false) (c.in_ok-add_shifting.ensures.onward c.if-not-branch.false) found
    (are_sources b item.production item.index c.args.state found c.prefix.result.now c.prefix.ensures c.in_ok-sources.ensures.ascending (c.in_ok-sources.ensures.exactly (edges b.states) c.args.trace.now.context.now.graph))
    c.push_sources.new.tasks.items (subst P p (duties b)) count)
