use Rattle.std.proofs.Common.{filter, refl, rules, arith}
use Rattle.std.proofs.lemmas.Fn.{filter_same}
use Rattle.lalrpop_state_graph.specs.graphs.GraphCopies.{is_other}
use Rattle.lalrpop_state_graph.proofs.theory.graphs.MovedOrigins.{changed_at, changed_past}
use Rattle.lalrpop_state_graph.proofs.state_graph.origins.remove_origin.Goals as goal

pub returns-then-number-count : goal.returns-then-number-count
returns-then-number-count c =
    let ok = c.args.lists.now.ok in
    let len = c.len-count.ensures in
    let test = c.if-number-count.true in
    changed_past (filter (is_other c.args.symbol.now c.args.source)) c.args.lists.now.items c.args.number refl (omega arith)

pub returns : goal.returns
returns c =
    let ok = c.args.lists.now.ok in
    let len = c.len-count.ensures in
    let test = c.if-number-count.false in
    changed_at (filter (is_other c.args.symbol.now c.args.source)) c.args.lists.now.items c.args.number c.index_mut.result.now c.retain.new.self (omega arith) c.index_mut.ensures.value
    (filter_same _ _ _ (λ x b f' k. search rules) _ _ c.retain.ensures.filtered)
