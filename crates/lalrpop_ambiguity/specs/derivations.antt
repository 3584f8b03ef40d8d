-- Derivation trees, walked from left to right.
pub mod Derivations
pub mod DerivationSteps
pub mod EqualDerivations
pub mod MarkedTexts
pub mod Moves
pub mod Represented
