-- The definitions that the contracts of this crate name, each with the file that has it.
pub use Rattle.run_lengths.specs.Laws.{EndlessRunsExist, FaithfulRunsEnd, IsNullableOrHasFirst, ProductiveRunsEnd}
