use Rattle.lalrpop_ambiguity.specs.Words.{tree_of}
use Rattle.lalrpop_ambiguity.proofs.theory.derivations.Views.{same_as_equal}
use Rattle.lalrpop_ambiguity.proofs.derivation.DerivationPartialEq.eq.Goals as goal

pub returns-clause-eq : goal.returns-clause-eq
returns-clause-eq c = same_as_equal c.are_equal.result (tree_of c.args.self.now) (tree_of c.args.other.now) c.are_equal.ensures
