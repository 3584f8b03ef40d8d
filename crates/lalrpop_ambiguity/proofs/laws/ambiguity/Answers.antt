use Rattle.lalrpop_ambiguity.proofs.theory.witnesses.ParseTrees.{two_trees}
use Rattle.lalrpop_ambiguity.proofs.theory.witnesses.Sentences.{two_derivations}
use Rattle.lalrpop_ambiguity.proofs.laws.ambiguity.Goals as goal

pub returns-clause-sentences : goal.returns-clause-sentences
returns-clause-sentences c = two_derivations

pub returns-clause-trees : goal.returns-clause-trees
returns-clause-trees c = two_trees
