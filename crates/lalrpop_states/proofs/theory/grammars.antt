-- The order of items, and the bits of tokens.
pub mod AscendingItems
pub mod KnownTerminals
