-- The check of tables.
pub mod ByNumber
pub mod Check
pub mod ExpectedKernels
