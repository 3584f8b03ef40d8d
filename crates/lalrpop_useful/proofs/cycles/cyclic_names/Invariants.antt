use Rattle.std.specs.Prelude.{vec_len}
use Rattle.lalrpop_grammar.specs.Words.{productions}
use Rattle.lalrpop_useful.specs.useful.KnownCycles.{IsKnown}
use Rattle.lalrpop_useful.proofs.theory.useful.Cycles.{IsCollecting}
use Rattle.lalrpop_useful.proofs.cycles.cyclic_names.Given as goal

abbrev pub invariant-loop-name : goal.invariant-loop-name
invariant-loop-name l = IsCollecting l.grammar.terminals (vec_len l.grammar.action_fn_defns) (productions l.grammar) l.name-iterator l.known.cyclic.keys × IsKnown l.grammar l.known
