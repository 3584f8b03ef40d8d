-- The symbols and dotted productions of a grammar, by number.
pub mod DottedProductions
pub mod Numbering
pub mod ProductionPlaces
pub mod Suffixes
