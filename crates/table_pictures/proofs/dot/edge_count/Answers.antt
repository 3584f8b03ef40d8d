use Rattle.std.proofs.Common.{ap, arith}
use Rattle.std.proofs.lemmas.List.Sums.{sum_by_more}
use Rattle.table_pictures.specs.Graphs.{state_edge_count}
use Rattle.table_pictures.proofs.dot.edge_count.Goals as goal

pub loop-state-preserved : goal.loop-state-preserved
loop-state-preserved c =
    let more = sum_by_more state_edge_count c.args.states.now c.loop-state.state-index c.state-item.result c.loop-state-test.true in
    let same = ap state_edge_count c.state-item.is in
    omega (arith, more, same, c.loop-state.invariant, c.len.ensures.len, c.len-in-loop-state.ensures.len, c.saturating_add.ensures, c.saturating_add-count.ensures)
