pub mod NextTokens
pub mod QuotedTexts
pub mod TreeGraphs
pub mod TreeLines
pub mod TreeNodes
