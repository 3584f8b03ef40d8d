use Rattle.std.proofs.Common.{ap, subst, sym, ◌∙◌}
use Rattle.lalrpop_base.specs.Words.{NumbersAscend}
use Rattle.lalrpop_lane_states.specs.lane_states.CopiedNumbers.{copied_edges}
use Rattle.lalrpop_lane_states.proofs.theory.lane_states.CopiedNumbers.{copied_ascend}
use Rattle.lalrpop_lane_states.proofs.lane_table.construct.copied_numbers.copied_state.Goals as goal

pub edges_over-requires : goal.edges_over-requires
edges_over-requires c x m among = c.requires x m (rw c.deref.ensures.value at among)

pub invariant_of-result : goal.invariant_of-result
invariant_of-result c =
    let same = c.in_ok-edges.ensures ∙ ap (copied_edges c.args.symbols.now c.args.state.now) c.deref.ensures.value in
    record { ascend = subst NumbersAscend (sym same) (copied_ascend c.args.symbols.now c.args.state.now c.args.original.now.edges.items c.args.original.now.ascend) }
