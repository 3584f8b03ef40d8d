use Rattle.std.proofs.Common.{◌≡◌, ◌++◌}
use Rattle.std.specs.List.{AllZip}
use Rattle.lalrpop_base.specs.Words.{IsReduced}
use Rattle.lalrpop_tables.proofs.build_lalr.reductions.reduce_states.Given as goal

abbrev pub invariant-loop-state : goal.invariant-loop-state
invariant-loop-state l = record {
  reduced : AllZip IsReduced l.yielded l.reduced.items;
  left : l.yielded ++ l.state-iterator.rest.items ≡ l.fn.states.items;
}
