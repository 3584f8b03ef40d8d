use Rattle.lalrpop_useful.specs.Words.{AddsRepeats, RepeatsBelow}
use Rattle.lalrpop_useful.proofs.repeats.add_repeats.Given as goal

abbrev pub invariant-loop-place : goal.invariant-loop-place
invariant-loop-place l = AddsRepeats (RepeatsBelow l.productions l.place) l.fn.repeats.items l.repeats.items
