-- The symbols and dotted productions of a grammar, by number.
pub mod Numbers
pub mod SuffixesGiven
