use Rattle.lalrpop_grammar.proofs.theory.grammars.Augmented.{alone, augmented_trees, same_sentences, same_beginnings, augmented_answers, augmented_refusals}
use Rattle.lr1_theory.proofs.laws.augmented.Goals as goal

pub returns-clause-alone : goal.returns-clause-alone
returns-clause-alone c = alone

pub returns-clause-trees : goal.returns-clause-trees
returns-clause-trees c = augmented_trees

pub returns-clause-sentences : goal.returns-clause-sentences
returns-clause-sentences c = same_sentences

pub returns-clause-beginnings : goal.returns-clause-beginnings
returns-clause-beginnings c = same_beginnings

pub returns-clause-answers : goal.returns-clause-answers
returns-clause-answers c g h start f states aug = augmented_answers g h start f aug states

pub returns-clause-refusals : goal.returns-clause-refusals
returns-clause-refusals c g h start f states aug = augmented_refusals g h start f aug states
