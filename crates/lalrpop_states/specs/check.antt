-- Definitions for the check of tables.
pub mod CheckCarrying
pub mod CheckPlaces
