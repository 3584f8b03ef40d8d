use Rattle.lalrpop_lanes.proofs.lane_table.lane.LaneTracer.new.Goals as goal

pub returns-clause-ready : goal.returns-clause-ready
returns-clause-ready g c = record {
  well_formed = c.requires.well_formed;
  coherent = c.requires.coherent;
  own = c.requires.own;
  firsts = c.requires.firsts;
  graph = c.requires.graph;
  in_range = λ row k h. absurd (c.new.ensures.empty.cells row k h);
}
