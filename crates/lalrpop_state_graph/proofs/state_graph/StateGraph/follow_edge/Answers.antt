use Rattle.std.proofs.Common.{◌∙◌, ap, sym}
use Rattle.lalrpop_state_graph.proofs.Types.{StateIndex}
use Rattle.lalrpop_state_graph.specs.Words.{edge}
use Rattle.lalrpop_state_graph.proofs.theory.graphs.GraphCopies.{edge_moves, edge_stays}
use Rattle.lalrpop_state_graph.proofs.state_graph.StateGraph.follow_edge.Goals as goal

pub returns-then-original-target : goal.returns-then-original-target
returns-then-original-target c =
    edge_stays c.args.originals.now (edge c.args.source c.args.symbol c.args.target) c.args.self.now c.push_at.new.lists c.in_ok-push_at.ensures
    (sym (ap (λ (i : StateIndex). i.0) c.renumbered-original.ensures) ∙ c.if-original-target.true)

pub returns : goal.returns
returns c =
    edge_moves c.args.originals.now (edge c.args.source c.args.symbol c.args.target) (c.renumbered-original.result).0 c.args.self.now c.push_at.new.lists c.remove_origin.new.lists c.push_at-2.new.lists (ap (λ (i : StateIndex). i.0) c.renumbered-original.ensures)
    c.if-original-target.false c.in_ok-push_at.ensures c.remove_origin.ensures c.in_ok-push_at-2.ensures
