-- Witnesses of ambiguity, and the sentences that they lead to.
pub mod Expansions
pub mod Rows
pub mod ParseTrees
pub mod Sentences
pub mod OwnNodes
