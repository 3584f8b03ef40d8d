use Rattle.lalrpop_useful.proofs.theory.useful.Users.{User-pushed}
use Rattle.lalrpop_useful.proofs.users.add_under.Goals as goal

pub returns : goal.returns
returns c = User-pushed c.args.users.now c.push.new.self c.in-Nonterminal.name c.args.user.now c.in_ok-clone.field-0 c.in_ok-clone-2.field-0 c.in_ok-clone.ensures c.in_ok-clone-2.ensures c.in_ok-push.ensures.pushed c.in_ok-push.ensures.others c.args.symbol.now c.in-Nonterminal.is
