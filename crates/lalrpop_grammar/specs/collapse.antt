-- The merge of states with the same dotted productions.
pub mod Collapse
