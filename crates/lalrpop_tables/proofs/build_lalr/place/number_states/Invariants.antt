use Rattle.std.proofs.Common.{◌≡◌, ◌++◌}
use Rattle.lalrpop_base.specs.Words.{AreMoved, number_in}
use Rattle.lalrpop_tables.proofs.build_lalr.place.number_states.Given as goal

abbrev pub invariant-loop-state : goal.invariant-loop-state
invariant-loop-state l = record {
  moved : AreMoved (number_in l.numbers) l.yielded l.numbered.items;
  left : l.yielded ++ l.state-iterator.rest.items ≡ l.fn.states.items;
}
