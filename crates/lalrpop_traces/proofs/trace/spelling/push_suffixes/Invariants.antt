use Rattle.std.proofs.Common.{◌≡◌, ◌++◌, map, length}
use Rattle.lalrpop_traces.specs.Words.{path_of, suffixes}
use Rattle.lalrpop_traces.specs.declared.trace.example.ExampleSymbol.TheVariants.{Symbol}
use Rattle.lalrpop_traces.proofs.trace.spelling.push_suffixes.Given as goal

abbrev pub invariant-loop-innermost : goal.invariant-loop-innermost
invariant-loop-innermost l = l.symbols.items ++ map Symbol (suffixes l.graph (path_of l.left)) ≡ l.initial.symbols.items ++ map Symbol (suffixes l.graph (path_of l.path))

abbrev pub decreases-loop-innermost : goal.decreases-loop-innermost
decreases-loop-innermost l = length l.left
