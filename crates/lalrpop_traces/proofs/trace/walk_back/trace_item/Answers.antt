use Rattle.std.proofs.Common.{◌≡◌, [], ◌++◌, List, refl, sym, ◌∙◌, ap, subst, arith, append-nil}
use Rattle.std.proofs.lemmas.List.{nil_from_length}
use Rattle.lalrpop_base.specs.Words.{Dotted}
use Rattle.lalrpop_traces.proofs.Types.{Nil, Production}
use Rattle.lalrpop_state_graph.specs.Words.{edges}
use Rattle.lalrpop_collections.proofs.theory.lists.Members.{Contains-none}
use Rattle.lalrpop_traces.specs.Words.{Duty, come_to, come_to_each, IsInOrder, asked, duties_of, duties_left, AreNamed, WalksOn}
use Rattle.lalrpop_traces.specs.declared.trace.walk_back.Met.{Met}
use Rattle.lalrpop_traces.specs.declared.trace.walk_back.Task.{Task}
use Rattle.lalrpop_traces.proofs.theory.traces.Meetings.{named_first}
use Rattle.lalrpop_traces.proofs.theory.traces.TraceOrder.{walks_none, walks_then, are_sources, in_order}
use Rattle.lalrpop_traces.proofs.theory.traces.TraceSteps.{duties_push, named_sources}
use Rattle.lalrpop_traces.proofs.theory.traces.TracedWalks.{is_trace}
use Rattle.lalrpop_traces.proofs.trace.walk_back.trace_item.Goals as goal

pub loop-task-init : goal.loop-task-init
loop-task-init c =
    let b = asked c.args.trace.now in
    let found = c.in_ok-sources.sources.items in
    let p : c.item.inside.production.now ≡ b.item.production = ap (λ (i : Dotted Nil). i.production) c.item.view_is in
    let P : Production → Type 0 = λ q. duties_left b c.push_sources.new.tasks.items ≡ come_to_each q found ++ duties_left b c.new-tasks.result.items in
    let all : duties_left b c.push_sources.new.tasks.items ≡ come_to_each b.item.production found ++ [] = subst P p (c.in_ok-push_sources.ensures.duties b) ∙ ap (λ (ts : List Task). come_to_each b.item.production found ++ duties_left b ts) c.new-tasks.ensures.items in
    record {
      walks = walks_none b (duties_left b c.push_sources.new.tasks.items) (record { trace_graph = c.add_own.new.graph; places = record { shifting = c.args.met.now.places.shifting; own = c.add_own.new.places }; visited_set = c.args.met.now.visited_set });
      named = subst (AreNamed b) (sym all) (named_sources b b.item.production found [] (named_first b) (λ q none. absurd (Contains-none (come_to q) none)));
    }

pub step-requires : goal.step-requires
step-requires c =
    let b = asked c.args.trace.now in
    let top : duties_left b c.loop-task.tasks.items ≡ duties_of b c.in-Some.task ++ duties_left b c.pop.new.self.items = ap (λ (ts : List Task). duties_left b ts) c.in-Some.ensures.items ∙ duties_push b c.pop.new.self.items c.in-Some.task in
    record { named = subst (AreNamed b) top c.loop-task.invariant.named }

pub loop-task-preserved : goal.loop-task-preserved
loop-task-preserved c =
    let b = asked c.args.trace.now in
    let top : duties_left b c.loop-task.tasks.items ≡ duties_of b c.in-Some.task ++ duties_left b c.pop.new.self.items = ap (λ (ts : List Task). duties_left b ts) c.in-Some.ensures.items ∙ duties_push b c.pop.new.self.items c.in-Some.task in
    let P : List Duty → Type 0 = λ ds. WalksOn b ds (duties_left b c.step.new.tasks.items) c.loop-task.met c.step.new.met in
    record { walks = walks_then b _ (duties_left b c.loop-task.tasks.items) (duties_left b c.step.new.tasks.items) _ c.loop-task.met c.step.new.met c.loop-task.invariant.walks (subst P (sym top) c.in_ok-step.ensures.walks); named = c.in_ok-step.ensures.named }

pub returns : goal.returns
returns c =
    let b = asked c.args.trace.now in
    let item = b.item in
    let found = c.in_ok-sources.sources.items in
    let first : Met = record { trace_graph = c.add_own.new.graph; places = record { shifting = c.args.met.now.places.shifting; own = c.add_own.new.places }; visited_set = c.args.met.now.visited_set } in
    let p : c.item.inside.production.now ≡ item.production = ap (λ (i : Dotted Nil). i.production) c.item.view_is in
    let P : Production → Type 0 = λ q. duties_left b c.push_sources.new.tasks.items ≡ come_to_each q found ++ duties_left b c.new-tasks.result.items in
    let all : duties_left b c.push_sources.new.tasks.items ≡ come_to_each item.production found = subst P p (c.in_ok-push_sources.ensures.duties b) ∙ ap (λ (ts : List Task). come_to_each item.production found ++ duties_left b ts) c.new-tasks.ensures.items ∙ append-nil (come_to_each item.production found) in
    let none : c.loop-task.tasks.items ≡ [] = nil_from_length c.loop-task.tasks.items (omega (arith, c.in_default.ensures.cases)) in
    let Q : List Duty → Type 0 = λ ds. WalksOn b ds (duties_left b c.loop-task.tasks.items) first c.loop-task.met in
    let R : List Task → Type 0 = λ ts. WalksOn b (come_to_each item.production found) (duties_left b ts) first c.loop-task.met in
    let order : IsInOrder b c.loop-task.met.trace_graph = in_order b c.args.met.now first c.loop-task.met found c.requires.unmet c.requires.empty refl
    (are_sources b item.production item.index b.state found c.prefix.result.now c.prefix.ensures c.in_ok-sources.ensures.ascending (c.in_ok-sources.ensures.exactly (edges b.states) c.args.trace.now.context.now.graph))
    c.in_ok-add_own.ensures.in_order (subst R none (subst Q all c.loop-task.invariant.walks)) in
    record { traced = is_trace b c.loop-task.met.trace_graph order; ordered = order }
