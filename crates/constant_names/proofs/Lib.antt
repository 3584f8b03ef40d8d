pub mod CamelTexts
pub mod UpperTexts
