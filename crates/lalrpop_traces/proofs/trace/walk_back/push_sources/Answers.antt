use Rattle.std.proofs.Common.{◌≡◌, ◌+◌, [], ◌++◌, List, length, map, refl, sym, ◌∙◌, ap, arith}
use Rattle.std.proofs.lemmas.List.{length_push, nil_from_length}
use Rattle.lalrpop_traces.proofs.Types.{StateIndex}
use Rattle.lalrpop_traces.specs.Words.{Duty, come_to, duties_left}
use Rattle.lalrpop_traces.specs.declared.trace.walk_back.Task.{Task}
use Rattle.lalrpop_traces.specs.declared.trace.walk_back.Task.TheVariants.{Meet}
use Rattle.lalrpop_traces.proofs.theory.traces.TraceSteps.{duties_source}
use Rattle.lalrpop_traces.proofs.trace.walk_back.push_sources.Goals as goal

pub loop-source-preserved : goal.loop-source-preserved
loop-source-preserved c =
    let task : Task = Meet c.in-Some.source c.args.name in
    let tasks : length c.push.new.self.items ≡ length c.loop-source.tasks.items + 1 = ap (λ (ts : List Task). length ts) c.in_ok-push.ensures.items ∙ length_push c.loop-source.tasks.items task in
    let sources : length c.loop-source.sources.items ≡ length c.pop.new.self.items + 1 = ap (λ (ns : List StateIndex). length ns) c.in-Some.ensures.items ∙ length_push c.pop.new.self.items c.in-Some.source in
    record {
      duties = λ b. sym (duties_source b c.args.name.now c.loop-source.tasks.items c.push.new.self.items task c.loop-source.sources.items c.pop.new.self.items c.in-Some.source c.in_ok-push.ensures.items refl c.in-Some.ensures.items) ∙ c.loop-source.invariant.duties b;
      count = omega (arith, tasks, sources, c.loop-source.invariant.count);
    }

pub returns-clause-duties : goal.returns-clause-duties
returns-clause-duties c = λ b.
    let come : StateIndex → Duty = λ n. come_to (n, c.args.name.now) in
    let none : c.loop-source.sources.items ≡ [] = nil_from_length c.loop-source.sources.items (omega (arith, c.in_default.ensures.cases)) in
    ap (λ (ns : List StateIndex). map come ns ++ duties_left b c.loop-source.tasks.items) (sym none) ∙ c.loop-source.invariant.duties b
