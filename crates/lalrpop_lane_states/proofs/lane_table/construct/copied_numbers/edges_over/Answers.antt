use Rattle.std.proofs.Common.{ℕ, List, get_or, refl}
use Rattle.std.proofs.lemmas.List.Elements.{Contains-get_or}
use Rattle.lalrpop_lane_states.proofs.theory.lane_states.CopiedNumbers.{edges_more}
use Rattle.lalrpop_lane_states.proofs.lane_table.construct.copied_numbers.edges_over.Goals as goal

pub add_edge-requires : goal.add_edge-requires
add_edge-requires c =
    let edges : List (ℕ × ℕ) = c.args.edges.now in
    let e : ℕ × ℕ = get_or edges c.loop-edge.edge-index (0, 0) in
    c.requires e.0 e.1 (Contains-get_or edges c.loop-edge.edge-index (0, 0) c.loop-edge-test.true)

pub loop-edge-preserved : goal.loop-edge-preserved
loop-edge-preserved c =
    let edges : List (ℕ × ℕ) = c.args.edges.now in
    let k = c.loop-edge.edge-index in
    edges_more c.args.symbols.now c.args.state.now edges k (0, 0) (get_or edges k (0, 0)) c.loop-edge.list.items c.add_edge.new.list.items c.loop-edge-test.true refl c.loop-edge.invariant c.in_ok-add_edge.ensures
