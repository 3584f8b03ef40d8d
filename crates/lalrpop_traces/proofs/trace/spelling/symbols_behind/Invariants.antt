use Rattle.std.proofs.Common.{◌≡◌, List, ◌++◌, length}
use Rattle.lalrpop_base.specs.Words.{HasKnownTerminals}
use Rattle.lalrpop_traces.proofs.Types.{TerminalString}
use Rattle.lalrpop_traces.specs.Words.{path_of, suffixes, following, AreKnownEdges}
use Rattle.lalrpop_traces.proofs.trace.spelling.symbols_behind.Given as goal

abbrev pub invariant-loop-inner : goal.invariant-loop-inner
invariant-loop-inner l = record {
  known : (terminals : List TerminalString) → AreKnownEdges terminals l.graph.edges → HasKnownTerminals terminals l.symbols.items;
  made : l.symbols.items ++ suffixes l.graph (path_of l.left) ≡ following l.graph (path_of l.path);
}

abbrev pub decreases-loop-inner : goal.decreases-loop-inner
decreases-loop-inner l = length l.left
