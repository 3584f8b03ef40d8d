-- Explained conflicts, and the first examples of their items.
pub mod ExplainedLists
pub mod FirstMeetings
pub mod FirstPaths
pub mod KeptGraphs
pub mod OwnErrors
pub mod TracedExamples
