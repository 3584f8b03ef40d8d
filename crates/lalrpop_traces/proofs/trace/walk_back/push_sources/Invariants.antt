use Rattle.std.proofs.Common.{◌≡◌, ◌+◌, ◌++◌, length, map}
use Rattle.lalrpop_traces.specs.Words.{Backtrace, come_to, duties_left}
use Rattle.lalrpop_traces.proofs.trace.walk_back.push_sources.Given as goal

abbrev pub invariant-loop-source : goal.invariant-loop-source
invariant-loop-source l = record {
  duties : (b : Backtrace) → map (λ n. come_to (n, l.name)) l.sources.items ++ duties_left b l.tasks.items ≡ map (λ n. come_to (n, l.name)) l.initial.sources.items ++ duties_left b l.initial.tasks.items;
  count : length l.tasks.items + length l.sources.items ≡ length l.initial.tasks.items + length l.initial.sources.items;
}

abbrev pub decreases-loop-source : goal.decreases-loop-source
decreases-loop-source l = length l.sources.items
