use Rattle.lalrpop_grammar.proofs.theory.grammars.Forests.{first-cons}
use Rattle.lalrpop_grammar.proofs.theory.grammars.Parses.{sentence_tree}
use Rattle.lr1_theory.proofs.laws.derivations.Goals as goal

pub returns-clause-first : goal.returns-clause-first
returns-clause-first c g x s t = first-cons x s t

pub returns-clause-trees : goal.returns-clause-trees
returns-clause-trees c = sentence_tree
