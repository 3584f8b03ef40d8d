use Rattle.std.proofs.Common.{take}
use Rattle.lalrpop_grammar.specs.Words.{IsGraph}
use Rattle.lalrpop_grammar.proofs.first.graph.graph_of.Given as goal

abbrev pub invariant-loop-rest : goal.invariant-loop-rest
invariant-loop-rest l = IsGraph l.terminals l.names (take l.rest-index l.rests) l.graph
