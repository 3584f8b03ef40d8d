use Rattle.std.proofs.Common.{◌≡◌, ◌++◌}
use Rattle.lalrpop_base.specs.Words.{HasTokensOf}
use Rattle.lalrpop_tables.proofs.build_lalr.reductions.tokens_of_productions.Given as goal

abbrev pub invariant-loop-tokens : goal.invariant-loop-tokens
invariant-loop-tokens l = record {
  has : HasTokensOf l.yielded l.tokens_of;
  left : l.yielded ++ l.tokens-iterator.rest.items ≡ l.fn.reductions.items;
}
