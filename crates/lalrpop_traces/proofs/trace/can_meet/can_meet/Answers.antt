use Rattle.std.proofs.Common.{◌≡◌, [], ℕ, refl, reverse, rules, arith, sym}
use Rattle.std.proofs.lemmas.Grind.{common_steps}
use Rattle.std.proofs.lemmas.List.{nil_from_length}
use Rattle.lalrpop_collections.specs.declared.collections.walk.Walk.{Walk}
use Rattle.lalrpop_traces.specs.Words.{path_of}
use Rattle.lalrpop_traces.proofs.theory.traces.CanMeet.{Meeting-start, Meeting-step, Meeting-smaller, Meeting-end}
use Rattle.lalrpop_traces.proofs.theory.traces.PathsLeft.{path_back}
use Rattle.lalrpop_traces.proofs.trace.can_meet.can_meet.Goals as goal

pub loop-next-init : goal.loop-next-init
loop-next-init c = Meeting-start c.args.graph.now c.args.first_sets.now c.args.lookahead.now (path_of (reverse c.args.path.now)) c.args.edge c.new-walk.result c.visit.new.self c.new-walk.ensures.visited c.new-walk.ensures.waiting c.in_ok-visit.ensures

pub loop-next-smaller : goal.loop-next-smaller
loop-next-smaller c =
    let popped : Walk ℕ = record { visited = c.loop-next.walk.visited; waiting = c.pop_front.new.self } in
    Meeting-smaller c.args.graph.now c.args.first_sets.now c.args.lookahead.now (path_of (reverse c.args.path.now)) c.args.edge c.in-Some.next c.loop-next.walk popped c.search_on.new.walk refl c.in-Some.ensures.items c.loop-next.invariant
    (c.in_ok-search_on.ensures.none c.if-branch-2.false) (c.in_ok-search_on.ensures.visits c.if-branch-2.false)

pub loop-next-preserved : goal.loop-next-preserved
loop-next-preserved c =
    let popped : Walk ℕ = record { visited = c.loop-next.walk.visited; waiting = c.pop_front.new.self } in
    Meeting-step c.args.graph.now c.args.first_sets.now c.args.lookahead.now (path_of (reverse c.args.path.now)) c.args.edge c.in-Some.next c.loop-next.walk popped c.search_on.new.walk refl c.in-Some.ensures.items c.loop-next.invariant
    (c.in_ok-search_on.ensures.none c.if-branch-2.false) (c.in_ok-search_on.ensures.visits c.if-branch-2.false)

pub returns : goal.returns
returns c =
    let xs = c.args.path.now in
    let none : c.loop-next.walk.waiting.items ≡ [] = first_of (search rules, grind (arith, common_steps), grind (arith, common_steps, nil_from_length c.loop-next.walk.waiting.items)) in
    record { none = λ _ n rest there. Meeting-end c.args.graph.now c.args.first_sets.now c.args.lookahead.now (path_of (reverse xs)) c.args.edge c.loop-next.walk none c.loop-next.invariant (c.in_ok-meets.ensures.none c.if-branch.false) (path_of xs) (sym (path_back xs (reverse xs) refl)) n rest there }
