use Rattle.std.proofs.Common.{◌≡◌, ◌++◌}
use Rattle.lalrpop_base.specs.Words.{AreAllNumbered, groups_by, kernels_by, list_entries}
use Rattle.lalrpop_construction.proofs.theory.construction.Moves.{AreSomeEdges}
use Rattle.lalrpop_construction.specs.states.NumberedStates.{AreListedBy}
use Rattle.std.specs.Map.{keys_of}
use Rattle.lalrpop_construction.proofs.construction.transitions.edges_of.Given as goal

abbrev pub invariant-loop-symbol : goal.invariant-loop-symbol
invariant-loop-symbol g l = record {
  edges : AreSomeEdges (groups_by l.fn.numbers l.fn.moves.items) (groups_by l.fn.numbers l.yielded) (kernels_by l.fn.numbers.items.items l.fn.kernels) (kernels_by l.fn.numbers.items.items l.kernels) (list_entries l.lists);
  known : AreAllNumbered l.fn.numbers.items.items l.kernels.list;
  listed : AreListedBy l.fn.numbers.symbols.items l.list.items (list_entries l.lists);
  keys : keys_of l.list.items ≡ keys_of l.yielded;
  left : l.yielded ++ l.symbol-iterator.rest.items ≡ l.fn.moves.items;
}
