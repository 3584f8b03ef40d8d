-- The tokens that follow a nonterminal in an item.
pub mod Following
