-- What the explanation of a conflict has, and what its states must be.
pub mod ExplainedConflicts
pub mod FirstExamples
pub mod KeptGraphs
pub mod OwnErrors
