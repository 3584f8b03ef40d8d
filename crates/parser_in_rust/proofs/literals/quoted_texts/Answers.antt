use Rattle.std.proofs.Common.{string_bytes, ap, ◌∙◌}
use Rattle.parser_in_rust.specs.Literals.{quoted}
use Rattle.symbol_texts.specs.Texts.{texts_of}
use Rattle.symbol_texts.proofs.TextLemmas.{map_one_more, text_at, within_texts}
use Rattle.parser_in_rust.proofs.literals.quoted_texts.Goals as goal

pub loop-text-preserved : goal.loop-text-preserved
loop-text-preserved c =
    let all = c.args.texts.now in
    let i = c.loop-text.text-index in
    let text = c.text-item.result in
    ap texts_of c.in_ok-push.ensures.items
    ∙ map_one_more quoted string_bytes (texts_of all) i (string_bytes text) c.loop-text.literals.items c.in_ok-quoted.field-0 (within_texts all i c.loop-text-test.true) (text_at all i text c.loop-text-test.true c.text-item.is) c.loop-text.invariant (c.in_ok-quoted.ensures ∙ ap quoted c.deref.ensures)
