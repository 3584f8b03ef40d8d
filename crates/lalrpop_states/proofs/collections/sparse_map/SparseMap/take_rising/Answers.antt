use Rattle.std.proofs.Common.{rules}
use Rattle.std.proofs.lemmas.List.Sorted.{IsNonDecreasingBy-from_sort_by_key}
use Rattle.lalrpop_collections.proofs.theory.collections.SparseMaps.{rising}
use Rattle.lalrpop_states.proofs.collections.sparse_map.SparseMap.take_rising.Goals as goal

pub returns-clause-rising : goal.returns-clause-rising
returns-clause-rising g c =
    rising c.in_ok-entries.entries.items c.sort_unstable_by_key.new.self.items c.sort_unstable_by_key.ensures.permutation c.in_ok-entries.ensures.differ
    (IsNonDecreasingBy-from_sort_by_key (λ e. e.0) _ c.sort_unstable_by_key.ensures.sorted (λ a r q k. search rules))
