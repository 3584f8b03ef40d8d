use Rattle.std.proofs.Common.{List, reverse, ap, ◌∙◌}
use Rattle.std.specs.declared.alloc.Global.{Global}
use Rattle.std.specs.declared.vec.Vec.{Vec}
use Rattle.lalrpop_state_graph.proofs.Types.{StateIndex, Symbol}
use Rattle.lalrpop_state_graph.specs.Words.{list_at, with_symbol}
use Rattle.lalrpop_state_graph.proofs.state_graph.StateGraph.predecessors.Goals as goal

pub returns : goal.returns
returns c = record { sources = ap (λ xs. reverse (with_symbol c.args.symbol.now xs)) (c.list_of.ensures ∙ ap (λ (lists : List (Vec (Symbol × StateIndex) Global)). list_at lists c.args.state.0) c.deref.ensures.value) }
