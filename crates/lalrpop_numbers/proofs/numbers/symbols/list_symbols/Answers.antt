use Rattle.std.proofs.Common.{subst, sym}
use Rattle.std.proofs.lemmas.Result.{IfOk-weaker}
use Rattle.lalrpop_numbers.specs.Words.{AreBehindDots}
use Rattle.lalrpop_numbers.proofs.numbers.symbols.list_symbols.Goals as goal

pub returns-clause-behind : goal.returns-clause-behind
returns-clause-behind c = IfOk-weaker c.list_set.result _ _ (λ symbols h. subst (AreBehindDots c.args.items.now) (sym h) c.in_ok-set.ensures) c.list_set.ensures.same
