-- Membership of values in lists, as a construction needs it.
pub mod Contained
