-- The text of a report.
pub mod Report
pub mod ReportLines
pub mod ReportPlaces
pub mod ReportSinks
pub mod ReportStates
