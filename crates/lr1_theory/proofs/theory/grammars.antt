-- Dotted productions, and bits of tokens.
pub mod Tables
