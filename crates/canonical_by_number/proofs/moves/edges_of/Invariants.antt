use Rattle.std.proofs.Common.{◌≡◌, ◌++◌}
use Rattle.std.specs.Map.{keys_of}
use Rattle.lalrpop_base.specs.Words.{groups_by, kernels_by}
use Rattle.lalrpop_construction.proofs.theory.construction.Moves.{AreSomeEdges}
use Rattle.canonical_by_number.specs.Edges.{AreOverSymbols, entries_of}
use Rattle.canonical_by_number.specs.Kernels.{AreKernelsIn, groups_in, kernels_in}
use Rattle.canonical_by_number.proofs.moves.edges_of.Given as goal

abbrev pub invariant-loop-symbol : goal.invariant-loop-symbol
invariant-loop-symbol l = record {
  edges : AreSomeEdges (groups_by l.fn.numbers (groups_in l.fn.sets l.fn.groups.items)) (groups_by l.fn.numbers (groups_in l.fn.sets l.yielded)) (kernels_by l.fn.numbers.items.items (kernels_in l.fn.sets l.fn.kernels)) (kernels_by l.fn.numbers.items.items (kernels_in l.fn.sets l.kernels)) (entries_of l.fn.numbers.symbols.items l.edges.items);
  known : AreKernelsIn l.fn.numbers l.fn.sets l.kernels.list;
  over : AreOverSymbols l.fn.numbers.symbols.items l.edges.items;
  keys : keys_of l.edges.items ≡ keys_of l.yielded;
  left : l.yielded ++ l.symbol-iterator.rest.items ≡ l.fn.groups.items;
}
