use Rattle.std.proofs.Common.{refl, arith}
use Rattle.lalrpop_state_graph.specs.graphs.StateGraph.{nothing}
use Rattle.lalrpop_state_graph.proofs.theory.graphs.MovedOrigins.{changed_at, changed_past}
use Rattle.lalrpop_state_graph.proofs.state_graph.lists.clear_at.Goals as goal

pub returns-then-number-count : goal.returns-then-number-count
returns-then-number-count g c =
    let ok = c.args.lists.now.ok in
    let len = c.len-count.ensures in
    let test = c.if-number-count.true in
    changed_past nothing c.args.lists.now.items c.args.number refl (omega arith)

pub returns : goal.returns
returns g c =
    let ok = c.args.lists.now.ok in
    let len = c.len-count.ensures in
    let test = c.if-number-count.false in
    changed_at nothing c.args.lists.now.items c.args.number c.index_mut.result.now c.clear.new.self (omega arith) c.index_mut.ensures.value c.clear.ensures.items
