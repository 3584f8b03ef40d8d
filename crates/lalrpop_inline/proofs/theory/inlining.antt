-- The inlining of nonterminals.
pub mod InlineApart
pub mod InlineArising
pub mod InlineChoices
pub mod InlineDefinitions
pub mod InlineEntries
pub mod InlineForests
pub mod InlineFrames
pub mod InlineMarks
pub mod InlineMeetings
pub mod InlineMembers
pub mod InlinePlaces
pub mod InlineRings
pub mod InlineStages
pub mod InlineSteps
pub mod InlineUsers
pub mod InlineViews
pub mod InlineWalks
