-- FIRST sets, and the steps that compute them.
pub mod FirstGraphs
pub mod FirstLists
pub mod FirstMeaning
pub mod FirstNames
pub mod FirstNumbers
pub mod FirstRests
pub mod FirstSets
