use Rattle.std.proofs.Common.{List, refl, subst, arith}
use Rattle.lalrpop_base.specs.Words.{Bits, rules_of}
use Rattle.lalrpop_lane_states.proofs.Types.{State}
use Rattle.lalrpop_state_graph.specs.Words.{edges, IsGraphOf}
use Rattle.lalrpop_lane_states.proofs.theory.lane_states.LaneShape.{lane_shape}
use Rattle.lalrpop_lane_states.proofs.theory.lane_states.Resolving.{own_copies}
use Rattle.lalrpop_lane_states.proofs.lane_table.construct.LaneTableConstruct.resolve_copied.Goals as goal

pub resolve_all-requires-clause-begun : goal.resolve_all-requires-clause-begun
resolve_all-requires-clause-begun c =
    let states : List (State Bits) = c.args.states.items in
    let shape = lane_shape (rules_of c.args.self.now.grammar.now) c.args.self.now.start states c.requires.lanes in (
      states,
      c.requires.numbered,
      record {
        made = c.requires.lanes;
        each = own_copies states c.in_ok-originals.originals.items shape.coherent
            (let k = c.args.states.ok in let n = c.len.ensures in let o = c.in_ok-originals.ensures.counted in omega arith)
            (λ m l. c.in_ok-originals.ensures.own m (let k = c.args.states.ok in let n = c.len.ensures in omega (arith, l)));
        counted = refl;
        graph = subst (λ (xs : List (State Bits)). IsGraphOf (edges xs) c.in_ok-graph.graph) c.deref.ensures.value c.in_ok-graph.ensures.graph;
      },
    )
