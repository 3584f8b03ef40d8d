use Rattle.std.proofs.Common.{rules}
use Rattle.std.proofs.lemmas.List.Sorted.{IsNonDecreasingBy-from_sort_by_key}
use Rattle.lalrpop_collections.proofs.theory.collections.SparseMaps.{placed_differ, rising}
use Rattle.canonical_by_number.proofs.number_map.NumberMap.take_rising.Goals as goal

pub returns-clause-rising : goal.returns-clause-rising
returns-clause-rising c =
    rising c.self.inside.entries.items c.sort_by_key.new.self.items (rw c.swap.ensures.y_after at c.sort_by_key.ensures.permutation) (placed_differ c.self.inside.places.items c.self.inside.entries.items c.self.invariant)
    (IsNonDecreasingBy-from_sort_by_key (λ e. e.0) _ c.in_ok-sort_by_key.ensures.sorted (λ a r q k. search rules))
