-- The definitions that the contracts of this crate name, each with the file that has it.
pub use Rattle.expecting_parser.specs.Expecting.{IfFailed, IfRefusedWith, IsRefusalWith, IsReport, bits_before}
pub use Rattle.expecting_parser.specs.Names.{listed, name_text, separator}
