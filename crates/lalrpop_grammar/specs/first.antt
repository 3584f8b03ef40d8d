-- FIRST sets, and the steps that compute them.
pub mod First
pub mod FirstGraphs
pub mod FirstNumbers
pub mod FirstRests
pub mod FirstSets
