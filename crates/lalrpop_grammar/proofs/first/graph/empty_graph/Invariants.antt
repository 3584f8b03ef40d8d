use Rattle.std.proofs.Common.{◌≡◌, ℕ, [], false, get_or, length}
use Rattle.lalrpop_collections.specs.Words.{no_bits, edge_ends}
use Rattle.lalrpop_collections.specs.lists.Spreading.{set_at}
use Rattle.lalrpop_grammar.proofs.first.graph.empty_graph.Given as goal

abbrev pub invariant-loop-name : goal.invariant-loop-name
invariant-loop-name l = record {
  sets : length l.sets.items ≡ l._name;
  edges : length l.edges.items ≡ l._name;
  flags : length l.nullable.items ≡ l._name;
  none : (n : ℕ) → set_at l.sets.items n ≡ no_bits;
  empty : (n : ℕ) → edge_ends l.edges.items n ≡ [];
  never : (n : ℕ) → get_or l.nullable.items n false ≡ false;
}
