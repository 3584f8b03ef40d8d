use Rattle.file_parts.proofs.Loops.{one_more}
use Rattle.symbol_texts.specs.Comments.{spaced_symbol}
use Rattle.symbol_texts.proofs.comments.push_symbols.Goals as goal

pub loop-symbol-preserved : goal.loop-symbol-preserved
loop-symbol-preserved c = one_more spaced_symbol c.args.symbols.now c.loop-symbol.symbol-index c.symbol-item.result _ _ _ c.loop-symbol-test.true c.symbol-item.is c.loop-symbol.invariant c.in_ok-push_spaced.ensures
