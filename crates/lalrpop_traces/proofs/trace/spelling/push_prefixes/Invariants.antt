use Rattle.std.proofs.Common.{◌≡◌, ◌++◌, map, length}
use Rattle.lalrpop_traces.specs.Words.{path_of, prefixes}
use Rattle.lalrpop_traces.specs.declared.trace.example.ExampleSymbol.TheVariants.{Symbol}
use Rattle.lalrpop_traces.proofs.trace.spelling.push_prefixes.Given as goal

abbrev pub invariant-loop-outermost : goal.invariant-loop-outermost
invariant-loop-outermost l = l.symbols.items ++ map Symbol (prefixes l.graph (path_of l.left)) ≡ l.initial.symbols.items ++ map Symbol (prefixes l.graph (path_of l.path))

abbrev pub decreases-loop-outermost : goal.decreases-loop-outermost
decreases-loop-outermost l = length l.left
