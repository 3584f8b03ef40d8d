use Rattle.std.proofs.Common.{refl, sym, ap, ◌++◌, rules}
use Rattle.lalrpop_traces.specs.Words.{frames, remaining}
use Rattle.lalrpop_traces.proofs.theory.traces.PathsLeft.{stopped_walk}
use Rattle.lalrpop_traces.proofs.theory.traces.Walks.{entered_load}
use Rattle.lalrpop_traces.proofs.trace.enumerator.PathEnumerator.take.Goals as goal

pub returns-clause-falls : goal.returns-clause-falls
returns-clause-falls c =
    let walk = c.enter-2.new.self in
    entered_load c.args.self.now walk.graph.now walk.start (frames walk) c.count_from-self.result c.args.number c.in_ok-enter-2.ensures.graph c.in_ok-enter-2.ensures.start c.in_ok-enter-2.ensures.frames c.count_from-self.ensures (c.if-passes.ensures.room refl)

pub returns-then-not-leads-clause-on : goal.returns-then-not-leads-clause-on
returns-then-not-leads-clause-on c = λ _. ap (λ xs. xs ++ remaining c.args.self.now) (c.in-Ok.ensures.none (search rules))

pub returns-then-comes_from_item-clause-found : goal.returns-then-comes_from_item-clause-found
returns-then-comes_from_item-clause-found c = λ _.
    let old = c.args.self.now in
    let walk = c.enter.new.self in
    stopped_walk old walk.graph.now walk.start walk.stack.items walk.left c.args.number c.in_ok-enter.ensures.graph c.in_ok-enter.ensures.start c.in_ok-enter.ensures.frames c.in_ok-enter.ensures.left (sym c.if-comes_from_item.ensures)
