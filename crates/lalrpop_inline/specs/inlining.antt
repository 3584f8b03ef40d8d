-- The inlining of nonterminals.
pub mod InlineChoices
pub mod InlineMeetings
pub mod InlineOrder
pub mod InlineRefusals
pub mod InlineSteps
pub mod InlineUsers
pub mod InlineWalks
pub mod Inlined
