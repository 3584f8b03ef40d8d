use Rattle.lalrpop_parser.specs.Words.{tree_of}
use Rattle.lalrpop_parser.proofs.theory.trees.TreeViews.{same_as_equal}
use Rattle.lalrpop_parser.proofs.interpret.tree.ParseTreePartialEq.eq.Goals as goal

pub returns-clause-eq : goal.returns-clause-eq
returns-clause-eq c = same_as_equal c.are_equal.result (tree_of c.args.self.now) (tree_of c.args.other.now) c.are_equal.ensures
