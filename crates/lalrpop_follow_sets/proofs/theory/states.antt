-- States and their items.
pub mod EdgePlaces
pub mod NonterminalEdges
