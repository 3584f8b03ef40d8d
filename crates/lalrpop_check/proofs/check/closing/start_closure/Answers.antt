use Rattle.std.proofs.lemmas.Result.{IfOk-weaker}
use Rattle.lalrpop_base.specs.Words.{IsAtStart, IsOneAtStart, productions, productions_of}
use Rattle.lalrpop_grammar.proofs.theory.grammars.Grammars.{productions_own}
use Rattle.lalrpop_check.proofs.theory.check.CheckClosing.{Begun-start, Closure-of}
use Rattle.lalrpop_collections.proofs.theory.collections.Walks.{All-wait}
use Rattle.lalrpop_check.proofs.check.closing.start_closure.Goals as goal

pub close-requires-clause-waiting : goal.close-requires-clause-waiting
close-requires-clause-waiting c = All-wait (IsOneAtStart (productions_of c.args.grammar.now c.args.start.now)) _ _ c.new-walk.ensures.visited c.new-walk.ensures.waiting c.in_ok-visit_productions.ensures

pub returns : goal.returns
returns c =
    let g = c.args.grammar.now in
    let own = productions_own g c.requires c.len-names.ensures.ordered in
    IfOk-weaker c.close.result _ _ (λ set closed. Closure-of g (IsAtStart (productions g) c.args.start.now) _ _ set.keys c.new-walk.ensures.visited c.new-walk.ensures.waiting (Begun-start g c.args.start.now c.requires own _ _ c.in_ok-visit_productions.ensures) closed) c.close.ensures
