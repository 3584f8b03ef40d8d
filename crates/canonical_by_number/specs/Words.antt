-- The definitions that the contracts of this crate name, each with the file that has it.
pub use Rattle.canonical_by_number.specs.Closures.{AreFirsts, ArePackedIn, GathersNumbers, IsNumberAt, IsNumberedClosure, IsNumberedPropagation, LetsPass, PropagatesNumbers, entries_in, entry_in, given_set, kernel_in, unpacked}
pub use Rattle.canonical_by_number.specs.TokenSets.{AreRemembered, AreSetsIn, IsUnionIn, KeepsNumbers, pair_of, set_at}
pub use Rattle.canonical_by_number.specs.Kernels.{AreKernelsIn, AreMovesIn, ArePackedGroups, groups_in, kernels_in}
