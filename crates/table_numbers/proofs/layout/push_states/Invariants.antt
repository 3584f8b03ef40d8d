use Rattle.std.proofs.Common.{◌≡◌, ◌++◌, drop}
use Rattle.std.specs.List.{flat_map}
use Rattle.table_numbers.specs.Layout.{state_block}
use Rattle.table_numbers.proofs.layout.push_states.Given as goal

abbrev pub invariant-loop-state : goal.invariant-loop-state
invariant-loop-state l = l.out.items ++ flat_map state_block (drop l.state-index l.states) ≡ l.fn.out.items ++ flat_map state_block l.states
