-- Lemmas that the proofs of the functions use.
pub mod useful
