use Rattle.std.proofs.Common.{List, subst}
use Rattle.lalrpop_base.specs.Words.{IsFirstSet}
use Rattle.lalrpop_traces.proofs.Types.{Symbol}
use Rattle.lalrpop_traces.specs.Words.{edge_of, edge_suffix}
use Rattle.lalrpop_traces.proofs.theory.traces.CanMeet.{no_token}
use Rattle.lalrpop_traces.proofs.trace.can_meet.meets.Goals as goal

pub first0-requires : goal.first0-requires
first0-requires c = record { known = (c.labels-labels.ensures.known c.args.first_sets.now.terminals c.requires.known).suffix }

pub returns : goal.returns
returns c =
    let g = c.args.first_sets.now in
    let is = subst (λ (xs : List Symbol). IsFirstSet g xs c.in_ok-first.first) c.labels-labels.ensures.suffix c.in_ok-first.ensures.first in
    record { none = λ h. no_token g c.args.lookahead.now (edge_suffix (edge_of c.args.graph.now c.args.edge)) c.in_ok-first.first is (c.is_intersecting.ensures.no h) }
