use Rattle.std.proofs.Common.{◌↔◌}
use Rattle.lalrpop_grammar.specs.Words.{AreWellFormedEntries, IsWellFormed}
use Rattle.lalrpop_grammar.proofs.repr.grammar.is_well_formed.Given as goal

abbrev pub invariant-loop-name : goal.invariant-loop-name
invariant-loop-name l = AreWellFormedEntries l.grammar.terminals l.actions l.name-iterator ↔ IsWellFormed l.grammar
