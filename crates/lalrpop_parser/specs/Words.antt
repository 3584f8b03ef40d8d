-- The definitions that the contracts of this crate name, each with the file that has it.
pub use Rattle.lalrpop_parser.specs.runs.Answers.{ReportsOutcome, IsFailure, IsPartialAnswer}
pub use Rattle.lalrpop_parser.specs.trees.EqualTrees.{equal_tree, tree_exact, tree_same}
pub use Rattle.lalrpop_parser.specs.runs.FaithfulAnswers.{AnswersTrees, ForEachCanonical, ForEachGrammar, HasEnough, HasOneTree, IfLimit, IfRefused, IsCutOff, IsCutOffByTables}
pub use Rattle.lalrpop_parser.specs.runs.FaithfulAnswers.{IsLimit, IsOutcomeFor, IsTreeWithin, StepsAreRight, TakesBeginning}
pub use Rattle.lalrpop_parser.specs.runs.Machines.{CanPop, HasRead, IsInitialMachine, IsHalted, IsProgress, IsShifted, IsSpent, IsStack, IsStacked, bottom, configuration}
pub use Rattle.lalrpop_parser.specs.runs.Machines.{numbers, reduction_move, shift_on, trees_on}
pub use Rattle.lalrpop_parser.specs.trees.ParseTrees.{separator_text, tree_nodes, tree_of, tree_step, tree_text, trees_text}
pub use Rattle.lalrpop_parser.specs.runs.Reading.{HasPartialOutcome, PartialOutcome, Reads, Stack, Stop, StopsReading, all_read, before, cut_off, early_end, stopped}
pub use Rattle.lalrpop_parser.specs.runs.Reading.{stuck}
pub use Rattle.lalrpop_parser.specs.runs.Steps.{HasOutcomeFrom, IsParsedIn, cut_off_from, other_end_from, parsed_from, stuck_from}
pub use Rattle.lalrpop_parser.specs.trees.TreeSteps.{GivesStep, Step, around_of, enters, forest_of, is_entering, leaves_node, meets_leaf, open_node, step_of, step_text}
pub use Rattle.lalrpop_parser.specs.trees.TreeSteps.{steps_left, steps_of, steps_over, steps_text, tree_by, tree_within}
