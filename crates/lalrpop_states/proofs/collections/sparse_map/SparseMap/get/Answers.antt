use Rattle.lalrpop_collections.proofs.theory.collections.SparseMaps.{placed_differ}
use Rattle.lalrpop_states.proofs.collections.sparse_map.SparseMap.get.Goals as goal

pub returns-in-Some-clause-differ : goal.returns-in-Some-clause-differ
returns-in-Some-clause-differ g c = rw (← c.self.view_is) (placed_differ c.self.inside.places.items c.self.inside.entries.items c.self.invariant)

pub returns-in-None-clause-differ : goal.returns-in-None-clause-differ
returns-in-None-clause-differ g c = rw (← c.self.view_is) (placed_differ c.self.inside.places.items c.self.inside.entries.items c.self.invariant)
