use Rattle.std.proofs.Common.{inl, arith}
use Rattle.lalrpop_grammar.proofs.lookahead.token_set.TokenSet.len.Goals as goal

pub count-requires-clause-fits : goal.count-requires-clause-fits
count-requires-clause-fits c = inl (omega (arith, c.bits.ensures.small))
