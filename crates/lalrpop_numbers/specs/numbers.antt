-- The symbols and dotted productions of a grammar, by number.
pub mod Numbering
pub mod Numbers
pub mod Suffixes
