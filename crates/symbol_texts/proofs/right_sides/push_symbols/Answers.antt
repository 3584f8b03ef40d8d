use Rattle.file_parts.proofs.Loops.{one_more}
use Rattle.symbol_texts.specs.Names.{symbol_words}
use Rattle.symbol_texts.proofs.right_sides.push_symbols.Goals as goal

pub loop-symbol-preserved : goal.loop-symbol-preserved
loop-symbol-preserved c = one_more (symbol_words c.args.style) c.args.symbols.now c.loop-symbol.symbol-index c.symbol-item.result _ _ _ c.loop-symbol-test.true c.symbol-item.is c.loop-symbol.invariant c.in_ok-push_symbol.ensures
