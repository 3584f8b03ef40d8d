use Rattle.std.proofs.Common.{◌≡◌, ◌++◌, take}
use Rattle.std.specs.List.{flat_map}
use Rattle.lalrpop_inline.specs.Words.{nonterminal_names}
use Rattle.lalrpop_inline.proofs.inline.graph.depth_first.push_names.Given as goal

abbrev pub invariant-loop-symbol : goal.invariant-loop-symbol
invariant-loop-symbol l = l.names.items ≡ l.initial.names.items ++ flat_map nonterminal_names (take l.symbol-index l.symbols)
