-- The check of tables.
pub mod CarriedLookaheads
pub mod CheckAll
pub mod CheckCarried
pub mod CheckCarrying
pub mod CheckClosing
pub mod CheckTables
pub mod ExpectedKernels
pub mod NumberedItems
pub mod NumberedPass
pub mod NumberedRight
pub mod NumberedSteps
