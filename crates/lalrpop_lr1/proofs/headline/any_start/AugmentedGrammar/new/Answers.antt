use Rattle.lalrpop_lr1.proofs.theory.runs.AnyStart.{old_again, is_above_old}
use Rattle.lalrpop_lr1.proofs.headline.any_start.AugmentedGrammar.new.Goals as goal

pub invariant_of-result : goal.invariant_of-result
invariant_of-result c =
    is_above_old c.args.grammar c.in_ok-grammar.grammar c.args.start c.in_ok-old_start.old_start c.in_ok-grammar.start c.requires c.in_ok-grammar.ensures.added c.in_ok-grammar.ensures.well_formed c.in_ok-old_start.ensures

pub returns-clause-old_productions : goal.returns-clause-old_productions
returns-clause-old_productions c = old_again c.args.grammar c.in_ok-grammar.grammar c.args.start c.in_ok-grammar.start c.requires c.in_ok-grammar.ensures.added
