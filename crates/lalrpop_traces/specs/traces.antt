-- Backtraces, their graphs and their example paths.
pub mod Alike
pub mod ExampleTexts
pub mod Examples
pub mod Meetings
pub mod NodeItems
pub mod Paths
pub mod TraceGraphs
pub mod TraceOrder
pub mod Traces
pub mod Walks
