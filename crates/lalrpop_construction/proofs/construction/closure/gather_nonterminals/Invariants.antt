use Rattle.std.proofs.Common.{◌≡◌, ◌++◌}
use Rattle.lalrpop_base.specs.Words.{readings}
use Rattle.lalrpop_construction.specs.Words.{unfolded}
use Rattle.lalrpop_collections.specs.lists.Entries.{GathersMore}
use Rattle.lalrpop_construction.proofs.construction.closure.gather_nonterminals.Given as goal

-- the entries so far are gathered
abbrev pub invariant-loop-symbol : goal.invariant-loop-symbol
invariant-loop-symbol g l = record {
  gathered : GathersMore (unfolded l.numbers (readings g.L.Lookahead.meaning l.yielded)) (readings g.L.Lookahead.meaning l.fn.table) (readings g.L.Lookahead.meaning l.table);
  left : l.yielded ++ l.symbol-iterator.rest.items ≡ l.fn.shared.items;
}
