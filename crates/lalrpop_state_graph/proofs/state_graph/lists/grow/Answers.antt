use Rattle.std.proofs.Common.{List, length, length-append, refl, ap, ◌∙◌, arith}
use Rattle.std.specs.declared.alloc.Global.{Global}
use Rattle.std.specs.declared.vec.Vec.{Vec}
use Rattle.lalrpop_state_graph.specs.Words.{list_at}
use Rattle.lalrpop_state_graph.proofs.theory.graphs.StateGraphs.{one_list_more}
use Rattle.lalrpop_state_graph.proofs.state_graph.lists.grow.Goals as goal

pub loop-alloc-init : goal.loop-alloc-init
loop-alloc-init g c = λ n. refl

pub loop-alloc-smaller : goal.loop-alloc-smaller
loop-alloc-smaller g c =
    let test = c.loop-alloc-test.true in
    let len = c.len.ensures in
    let ok = c.loop-alloc.lists.ok in
    let longer = ap length c.in_ok-push.ensures.items ∙ length-append c.loop-alloc.lists.items _ in
    omega arith

pub loop-alloc-preserved : goal.loop-alloc-preserved
loop-alloc-preserved g c = λ n. one_list_more c.loop-alloc.lists.items _ c.new.result c.new.ensures.items c.in_ok-push.ensures.items n ∙ c.loop-alloc.invariant n

pub returns-in_err-push-clause-same : goal.returns-in_err-push-clause-same
returns-in_err-push-clause-same g c = λ n. ap (λ (xs : List (Vec g.row.X.Denot Global)). list_at xs n) c.in_err-push.ensures.items ∙ c.loop-alloc.invariant n

pub returns-clause-same : goal.returns-clause-same
returns-clause-same g c = c.loop-alloc.invariant
