pub mod ReportShown
pub mod RunShown
pub mod ExplainedParts
pub mod ExplainedTexts
