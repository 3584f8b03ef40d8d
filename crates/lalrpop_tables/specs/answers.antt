-- The results of a construction of tables.
pub mod Lr1Answers
pub mod TablesOrCount
