use Rattle.std.proofs.Common.{sym, ◌∙◌, ap, not}
use Rattle.lalrpop_base.specs.Words.{fails, stands_first, number_in}
use Rattle.lr1_theory.proofs.theory.renumbering.Moved.{Grows-taken}
use Rattle.lalrpop_state_graph.proofs.renumber.push_state.Goals as goal

pub returns-then-is_first-clause-front : goal.returns-then-is_first-clause-front
returns-then-is_first-clause-front c = Grows-taken (number_in c.args.numbers.now) (stands_first c.args.state) c.args.state c.renumber_state.result _ _ (sym c.is_first.ensures ∙ c.if-is_first.true) c.renumber_state.ensures c.in_ok-push.ensures.items

pub returns-clause-back : goal.returns-clause-back
returns-clause-back c = Grows-taken (number_in c.args.numbers.now) (fails stands_first c.args.state) c.args.state c.renumber_state-2.result _ _ (ap not (sym c.is_first.ensures ∙ c.if-is_first.false)) c.renumber_state-2.ensures c.in_ok-push-2.ensures.items
