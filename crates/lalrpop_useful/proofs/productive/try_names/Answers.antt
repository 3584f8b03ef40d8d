use Rattle.std.proofs.Common.{◌≡◌, List, rules, subst}
use Rattle.lalrpop_grammar.specs.Words.{productions_of}
use Rattle.lalrpop_useful.proofs.Types.{Production}
use Rattle.lalrpop_useful.specs.Words.{AreTried}
use Rattle.lalrpop_useful.proofs.theory.useful.Productive.{Trying-step, Trying-end}
use Rattle.lalrpop_useful.proofs.productive.try_names.Goals as goal

pub loop-name-init : goal.loop-name-init
loop-name-init c =
    let all : c.into_iter-name-iterator.result ≡ c.args.names.now.keys = search rules in
    rw all (λ end t. t)

pub loop-name-preserved : goal.loop-name-preserved
loop-name-preserved c =
    let g = c.args.grammar.now in
    Trying-step (productions_of g) c.args.names.now.keys _ _ c.in-Some.name.now c.args.walk.now c.loop-name.walk c.try_each.new.walk c.in-Some.ensures.steps c.loop-name.invariant
    (subst (λ (ps : List Production). AreTried ps c.loop-name.walk c.try_each.new.walk) c.productions_for.ensures c.in_ok-try_each.ensures)

pub returns : goal.returns
returns c = Trying-end (productions_of c.args.grammar.now) c.args.names.now.keys _ c.args.walk.now c.loop-name.walk c.in-None.ensures.steps.0 c.loop-name.invariant
