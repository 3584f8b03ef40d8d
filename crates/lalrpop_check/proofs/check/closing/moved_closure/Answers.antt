use Rattle.std.proofs.lemmas.Result.{IfOk-weaker}
use Rattle.std.proofs.Common.{map}
use Rattle.lalrpop_states.specs.states.Items.{dotted_of}
use Rattle.lalrpop_base.specs.Words.{IsMovedIn, IsMovedOf}
use Rattle.lalrpop_check.proofs.theory.check.CheckClosing.{Closure-of}
use Rattle.lalrpop_collections.proofs.theory.collections.Walks.{All-wait}
use Rattle.lalrpop_check.proofs.check.closing.moved_closure.Goals as goal

pub close-requires-clause-waiting : goal.close-requires-clause-waiting
close-requires-clause-waiting c = All-wait (IsMovedOf c.args.items.now) _ _ c.new-walk.ensures.visited c.new-walk.ensures.waiting c.in_ok-visit_moved.ensures

pub returns : goal.returns
returns c = IfOk-weaker c.close.result _ _ (λ set closed. Closure-of c.args.grammar.now (IsMovedIn (map dotted_of c.args.items.now)) _ _ set.keys c.new-walk.ensures.visited c.new-walk.ensures.waiting c.in_ok-visit_moved.ensures closed) c.close.ensures
