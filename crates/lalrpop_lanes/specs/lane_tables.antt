-- Lane tables, and the tokens of their columns.
pub mod LaneCells
pub mod LaneRows
pub mod LaneTableStates
pub mod LaneTables
