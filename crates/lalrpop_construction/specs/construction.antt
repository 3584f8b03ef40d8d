-- The states that a construction makes, and its results.
pub mod Building
pub mod EarlyStop
pub mod Ready
pub mod Results
