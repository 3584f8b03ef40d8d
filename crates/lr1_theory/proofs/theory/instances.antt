-- Two grammars with states that meet the definitions.
pub mod FiveStates
pub mod FiveStatesRuns
pub mod Instance
pub mod InstanceRuns
pub mod InstanceTokens
pub mod Rows
pub mod Spoilt
