-- Grammars, their names and tokens, derivations and parse trees.
pub mod Augmented
pub mod Entries
pub mod ExactNames
pub mod Grammar
pub mod Marks
pub mod Names
pub mod NewStart
pub mod Orders
pub mod Refusals
pub mod SameGrammars
pub mod TerminalPlaces
pub mod Tokens
pub mod WellFormed
