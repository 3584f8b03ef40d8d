-- The results of a construction of tables.
pub mod ByLanes
pub mod Lr1Answers
pub mod NotCollapsed
pub mod TablesOrCount
