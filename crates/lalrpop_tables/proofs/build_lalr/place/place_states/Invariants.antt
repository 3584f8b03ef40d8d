use Rattle.std.proofs.Common.{◌≡◌, ◌++◌}
use Rattle.lalrpop_states.specs.collapse.Merging.{ArePlaced}
use Rattle.lalrpop_tables.proofs.build_lalr.place.place_states.Given as goal

abbrev pub invariant-loop-state : goal.invariant-loop-state
invariant-loop-state l = record {
  placed : ArePlaced l.yielded l.merged.items;
  left : l.yielded ++ l.state-iterator.rest.items ≡ l.fn.states.items;
}
