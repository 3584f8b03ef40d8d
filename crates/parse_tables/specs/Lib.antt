pub mod Actions
pub mod Cells
pub mod Codes
pub mod Rows
pub mod StateRows
pub mod Tables
pub mod Words
