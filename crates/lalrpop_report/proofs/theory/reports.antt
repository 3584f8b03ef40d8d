-- The text of a report.
pub mod Puts
pub mod ReportNumbers
pub mod ReportPadding
pub mod ReportPlaces
pub mod ReportTexts
