use Rattle.std.proofs.Common.{List, length, ap}
use Rattle.lalrpop_grammar.specs.declared.repr.TerminalString.{TerminalString}
use Rattle.lalrpop_construction_tests.proofs.WordMoves.{end_fits}
use Rattle.lalrpop_construction_tests.proofs.word_lookahead.Word.eof.Goals as goal

pub returns-clause-fits : goal.returns-clause-fits
returns-clause-fits c = end_fits c.args.terminals.now c.single.result.bits _ c.single.ensures (ap (λ (xs : List TerminalString). length xs) c.all-bit.ensures.value)
