-- Runs of the parser.
pub mod AnyStart
pub mod Headline
pub mod ParseAnswers
