-- States of which those with the same dotted productions are merged.
pub mod CollapseCanonical
pub mod CollapseCoherent
pub mod CollapseContents
pub mod CollapseDots
pub mod CollapseLalr
pub mod CollapseResults
pub mod MergeableStates
pub mod MergedCollapse
pub mod MergedNumbers
pub mod MergedStates
pub mod MergingItems
pub mod MergingReductions
