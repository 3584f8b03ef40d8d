use Rattle.std.proofs.Common.{◌≡◌, ◌≤◌, ◌++◌, length}
use Rattle.lalrpop_traces.specs.Words.{path_of, prefixes, suffixes, example_reductions}
use Rattle.lalrpop_traces.proofs.trace.spelling.reductions_of.Given as goal

abbrev pub invariant-loop-innermost : goal.invariant-loop-innermost
invariant-loop-innermost l = record {
  before : l.before ≡ length (prefixes l.graph (path_of l.left));
  behind : l.behind ≡ length (suffixes l.graph (path_of l.left));
  within : l.behind ≤ l.count;
  made : l.reductions.items ++ example_reductions l.graph l.count (path_of l.left) ≡ example_reductions l.graph l.count (path_of l.path);
}

abbrev pub decreases-loop-innermost : goal.decreases-loop-innermost
decreases-loop-innermost l = length l.left
