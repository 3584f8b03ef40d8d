-- The definitions that the contracts of this crate name, each with its file.
pub use Rattle.lalrpop_check.specs.check.Check.{HoldCarried, PassCheck}
pub use Rattle.lalrpop_check.specs.check.ExpectedKernels.{AreMovedKernel, IsKernelAt, IsKernelOf, IsMovedNumber, NumbersRise, no_tokens}
