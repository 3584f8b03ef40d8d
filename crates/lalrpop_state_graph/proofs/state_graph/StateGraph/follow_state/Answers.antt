use Rattle.std.proofs.Common.{refl}
use Rattle.std.proofs.lemmas.Result.{on_ok_weaker}
use Rattle.lalrpop_state_graph.proofs.theory.graphs.GraphCopies.{state_followed, state_unmoved}
use Rattle.lalrpop_state_graph.proofs.state_graph.StateGraph.follow_state.Goals as goal

pub returns-then-not-leads_to_copies : goal.returns-then-not-leads_to_copies
returns-then-not-leads_to_copies g c =
    let told = c.if-not-leads_to_copies.ensures in
    state_unmoved c.args.originals.now c.args.source c.args.state.now c.args.self.now (told.shifts refl) (told.gotos refl)

pub returns : goal.returns
returns g c =
    let told = c.if-not-leads_to_copies.ensures in
    on_ok_weaker c.follow_edges.result (λ follows. state_followed c.args.originals.now c.args.source c.args.state.now c.args.self.now c.follow_edges.new.self c.clear_at.new.lists (told.differ).0 (told.differ).1 c.clear_at.ensures follows) c.follow_edges.ensures
