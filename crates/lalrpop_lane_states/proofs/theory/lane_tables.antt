-- Lane tables, and the tokens of their columns.
pub mod LaneClosed
