-- Grammars, their names and tokens, derivations and parse trees.
pub mod Augmented
pub mod Derivations
pub mod Entries
pub mod Forests
pub mod Grammars
pub mod NameOrders
pub mod NewStart
pub mod Parses
pub mod SymbolLists
pub mod TerminalPlaces
