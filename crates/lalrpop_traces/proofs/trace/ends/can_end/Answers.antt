use Rattle.std.proofs.Common.{◌≡◌, [], ℕ, refl, reverse, rules, arith}
use Rattle.std.proofs.lemmas.Grind.{common_steps}
use Rattle.std.proofs.lemmas.List.{nil_from_length}
use Rattle.lalrpop_collections.specs.declared.collections.walk.Walk.{Walk}
use Rattle.lalrpop_traces.specs.Words.{path_of}
use Rattle.lalrpop_traces.proofs.theory.traces.Ends.{Searching-start, Searching-step, Searching-smaller, Searching-end}
use Rattle.lalrpop_traces.proofs.trace.ends.can_end.Goals as goal

pub loop-next-init : goal.loop-next-init
loop-next-init c = Searching-start c.args.graph.now (path_of (reverse c.args.path.now)) c.args.edge c.requires.nonterminal c.new-walk.result c.visit.new.self c.new-walk.ensures.visited c.new-walk.ensures.waiting c.in_ok-visit.ensures

pub loop-next-smaller : goal.loop-next-smaller
loop-next-smaller c =
    let popped : Walk ℕ = record { visited = c.loop-next.walk.visited; waiting = c.pop_front.new.self } in
    Searching-smaller c.args.graph.now (path_of (reverse c.args.path.now)) c.args.edge c.in-Some.next c.loop-next.walk popped c.visit_before.new.walk refl c.in-Some.ensures.items c.loop-next.invariant (c.if-ends_before-2.ensures.none refl) c.in_ok-visit_before.ensures

pub loop-next-preserved : goal.loop-next-preserved
loop-next-preserved c =
    let popped : Walk ℕ = record { visited = c.loop-next.walk.visited; waiting = c.pop_front.new.self } in
    Searching-step c.args.graph.now (path_of (reverse c.args.path.now)) c.args.edge c.in-Some.next c.loop-next.walk popped c.visit_before.new.walk refl c.in-Some.ensures.items c.loop-next.invariant (c.if-ends_before-2.ensures.none refl) c.in_ok-visit_before.ensures

pub returns : goal.returns
returns c =
    let none : c.loop-next.walk.waiting.items ≡ [] = first_of (search rules, grind (arith, common_steps), grind (arith, common_steps, nil_from_length c.loop-next.walk.waiting.items)) in
    record { none = λ _. Searching-end c.args.graph.now (path_of (reverse c.args.path.now)) c.args.edge c.loop-next.walk none c.loop-next.invariant }
