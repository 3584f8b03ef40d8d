pub mod NextTokens
pub mod RefusalTexts
pub mod TreeGraphs
pub mod TreeLines
pub mod TreeNodes
pub mod Words
