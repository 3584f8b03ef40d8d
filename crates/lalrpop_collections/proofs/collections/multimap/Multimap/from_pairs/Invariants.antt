use Rattle.lalrpop_collections.specs.Words.{collection_at, IsCollectionOf, values_at}
use Rattle.lalrpop_collections.proofs.collections.multimap.Multimap.from_pairs.Given as goal

abbrev pub invariant-loop-key : goal.invariant-loop-key
invariant-loop-key g l = (q : g.row.K.Denot) → IsCollectionOf g.C.Collection.is_empty g.C.Collection.pushes (values_at g.K.Ord.cmp q l.yielded) (collection_at g.K.Ord.cmp l.map q)
