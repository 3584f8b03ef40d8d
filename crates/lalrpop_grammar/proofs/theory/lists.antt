-- Lists in general.
pub mod ListEnds
