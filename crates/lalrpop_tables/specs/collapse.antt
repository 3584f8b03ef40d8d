-- States of which those with the same dotted productions are merged.
pub mod Collapsed
pub mod Lalr
