use Rattle.std.proofs.Common.{List, reverse, ap, ◌∙◌}
use Rattle.std.specs.declared.alloc.Global.{Global}
use Rattle.std.specs.declared.vec.Vec.{Vec}
use Rattle.lalrpop_state_graph.proofs.Types.{StateIndex}
use Rattle.lalrpop_state_graph.specs.Words.{list_at}
use Rattle.lalrpop_state_graph.proofs.state_graph.StateGraph.successors.Goals as goal

pub returns : goal.returns
returns c = record { targets = ap reverse (c.list_of.ensures ∙ ap (λ (lists : List (Vec StateIndex Global)). list_at lists c.args.state.0) c.deref.ensures.value) }
