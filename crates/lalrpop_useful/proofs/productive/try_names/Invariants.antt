use Rattle.lalrpop_grammar.specs.Words.{productions_of}
use Rattle.lalrpop_useful.proofs.theory.useful.Productive.{IsTrying}
use Rattle.lalrpop_useful.proofs.productive.try_names.Given as goal

abbrev pub invariant-loop-name : goal.invariant-loop-name
invariant-loop-name l = IsTrying (productions_of l.grammar) l.names.keys l.name-iterator l.fn.walk l.walk
