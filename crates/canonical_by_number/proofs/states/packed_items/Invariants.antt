use Rattle.std.proofs.Common.{◌≡◌, take}
use Rattle.canonical_by_number.specs.TokenSets.{KeepsNumbers}
use Rattle.canonical_by_number.specs.Closures.{ArePackedIn, kernel_in}
use Rattle.canonical_by_number.proofs.states.packed_items.Given as goal

abbrev pub invariant-loop-item : goal.invariant-loop-item
invariant-loop-item l = record {
  kept : KeepsNumbers l.fn.sets l.sets;
  packed : ArePackedIn l.sets l.packed;
  items : kernel_in l.sets l.packed ≡ take l.item-index l.items;
}
