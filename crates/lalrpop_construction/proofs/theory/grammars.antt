-- Items and their tokens.
pub mod ItemTokens
