-- A construction that stops early.
pub mod MadeUntil
pub mod PartlyBuilt
pub mod StoppedAnswers
pub mod StoppedConflicts
pub mod StoppedLr0
pub mod StoppedStates
