-- Lemmas that the proofs of the functions use, in a folder for each subject.
pub mod answers
pub mod canonical
pub mod collapse
pub mod renumbering
