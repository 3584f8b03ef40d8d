use Rattle.std.proofs.lemmas.Result.{IfOk-weaker}
use Rattle.lalrpop_tables.proofs.theory.collapse.MergingReductions.{Listed-joined}
use Rattle.lalrpop_tables.proofs.build_lalr.reductions.join_reductions.Goals as goal

pub returns : goal.returns
returns c = IfOk-weaker c.list_reductions.result _ _ (λ joined listed. Listed-joined c.args.reductions.items joined.items c.in_ok-tokens_of.tokens_of c.in_ok-tokens_of.ensures listed) c.list_reductions.ensures
