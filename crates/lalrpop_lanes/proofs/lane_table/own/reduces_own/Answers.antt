use Rattle.std.proofs.Common.{subst, sym}
use Rattle.lalrpop_base.specs.Words.{productions}
use Rattle.lalrpop_lanes.proofs.Types.{Action}
use Rattle.lalrpop_lanes.specs.Words.{ReducesOwn}
use Rattle.lalrpop_lanes.proofs.lane_table.own.reduces_own.Goals as goal

pub returns-in-Reduce : goal.returns-in-Reduce
returns-in-Reduce c = record {
  own = (
    λ yes. subst (λ (a : Action). ReducesOwn (productions c.args.grammar.now) a) (sym c.in-Reduce.is) (c.is_own.ensures.own.0 yes),
    λ own. c.is_own.ensures.own.1 (subst (λ (a : Action). ReducesOwn (productions c.args.grammar.now) a) c.in-Reduce.is own),
  );
}
