use Rattle.lalrpop_state_graph.proofs.theory.states.EdgeLeads.{edge_leads}
use Rattle.lalrpop_collections.proofs.theory.lists.Places.{slice_get_at}
use Rattle.lalrpop_lanes.proofs.lane_table.lane.unshift.read_edge.Goals as goal

pub returns : goal.returns
returns g c = edge_leads c.args.states.now c.args.source c.args.target c.args.symbol.now c.index-states-source.result (slice_get_at _ _ _ c.requires.there c.index-states-source.is) c.len-shifts.ensures.ordered c.len-gotos.ensures.ordered c.requires.edge
