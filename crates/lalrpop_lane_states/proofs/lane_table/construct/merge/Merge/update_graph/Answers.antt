use Rattle.std.proofs.Common.{ℕ, List, length, ap, arith, subst}
use Rattle.lalrpop_base.specs.Words.{Bits}
use Rattle.lalrpop_lane_states.proofs.Types.{State}
use Rattle.lalrpop_state_graph.specs.graphs.GraphCopies.{FollowsCopies}
use Rattle.lalrpop_lane_states.proofs.lane_table.construct.merge.Merge.update_graph.Goals as goal

pub follow_copies-requires : goal.follow_copies-requires
follow_copies-requires c =
    let same = ap (λ (xs : List (State Bits)). length xs) c.deref.ensures.value in
    let within = c.requires in
    omega arith

pub returns : goal.returns
returns c =
    let count = c.args.count in
    let old = c.args.graph.now in
    let new = c.follow_copies.new.self in
    subst (λ (xs : List (State Bits)). FollowsCopies count c.args.self.now.originals.items xs xs old new) c.deref.ensures.value
    (subst (λ (ns : List ℕ). FollowsCopies count ns c.deref.result.now c.deref.result.now old new) c.deref-2.ensures.value c.in_ok-follow_copies.ensures)
