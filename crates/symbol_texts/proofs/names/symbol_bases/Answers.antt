use Rattle.std.proofs.Common.{string_bytes, ap, ◌∙◌}
use Rattle.symbol_texts.specs.Names.{symbol_name}
use Rattle.symbol_texts.specs.Texts.{texts_of}
use Rattle.symbol_texts.proofs.TextLemmas.{map_one_more, text_at, within_texts}
use Rattle.symbol_texts.proofs.names.symbol_bases.Goals as goal

pub loop-symbol-preserved : goal.loop-symbol-preserved
loop-symbol-preserved c =
    let all = c.args.symbols.now in
    let i = c.loop-symbol.symbol-index in
    let text = c.symbol-item.result in
    ap texts_of c.in_ok-push.ensures.items
    ∙ map_one_more (symbol_name c.args.style) string_bytes (texts_of all) i (string_bytes text) c.loop-symbol.names.items c.in_ok-symbol_name.field-0 (within_texts all i c.loop-symbol-test.true) (text_at all i text c.loop-symbol-test.true c.symbol-item.is) c.loop-symbol.invariant (c.in_ok-symbol_name.ensures ∙ ap (symbol_name c.args.style) c.deref.ensures)
