pub mod Texts
pub mod Inlined
pub mod Answers
pub mod Outcomes
pub mod Output
pub mod Words
pub mod Written
