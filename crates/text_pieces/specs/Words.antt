-- The definitions that the contracts of this crate name, each with the file that has it.
pub use Rattle.text_pieces.specs.Pieces.{piece_text}
