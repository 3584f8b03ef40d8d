pub mod Parsers
