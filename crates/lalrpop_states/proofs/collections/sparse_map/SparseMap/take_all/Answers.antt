use Rattle.lalrpop_collections.proofs.theory.collections.SparseMaps.{placed_differ}
use Rattle.lalrpop_states.proofs.collections.sparse_map.SparseMap.take_all.Goals as goal

pub returns-clause-differ : goal.returns-clause-differ
returns-clause-differ g c = rw c.replace.ensures.value (placed_differ c.self.inside.places.items c.self.inside.entries.items c.self.invariant)
