-- Lemmas that the proofs of the functions use, in a folder for each subject.
pub mod derivations
pub mod witnesses
