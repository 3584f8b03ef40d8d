-- The definitions that the contracts of this crate name, each with the file that has it.
pub use Rattle.lalrpop_ambiguity.specs.derivations.Derivations.{AreOfGrammar, IsDerivation, Leaf, Node, Tree, Trees, beside, leaves, no_trees, nodes, root, roots, trees_of}
pub use Rattle.lalrpop_ambiguity.specs.derivations.DerivationSteps.{GivesStep, Step, around_of, enters, forest_of, is_entering, leaves_node, meets_leaf, open_node, step_of}
pub use Rattle.lalrpop_ambiguity.specs.derivations.DerivationSteps.{step_text, steps_left, steps_of, steps_over, steps_text, tree_by, tree_within}
pub use Rattle.lalrpop_ambiguity.specs.derivations.EqualDerivations.{equal_tree, tree_exact, tree_same}
pub use Rattle.lalrpop_ambiguity.specs.derivations.MarkedTexts.{is_first_after, is_marked, left_after, mark_if, mark_text, marked_step_text, marked_steps, marked_text, one_fewer, shown_tree, text_left}
pub use Rattle.lalrpop_ambiguity.specs.derivations.Moves.{HaveInCommon, Move, move_of, moves_by, moves_of, moves_over, moves_with, reads, reduces}
pub use Rattle.lalrpop_ambiguity.specs.derivations.Represented.{roots_of, separator_text, symbols_at, tree_nodes, tree_of, tree_step, tree_text, trees_at, trees_text}
pub use Rattle.lalrpop_ambiguity.specs.witnesses.Witnesses.{DeriveTerminals, DerivationsHaveTrees, DeriveSome, HasNoTwins, HasTwoDerivations, HaveOneRoot, IsAmbiguous, IsUseful}
pub use Rattle.lalrpop_ambiguity.specs.witnesses.Witnesses.{IsExpansion, IsWitness, WitnessesHaveSentences}
pub use Rattle.lalrpop_ambiguity.specs.witnesses.Searches.{AreCommonMoves, IfFound}
