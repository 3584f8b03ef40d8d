use Rattle.std.proofs.Common.{string_bytes, ap, ◌∙◌}
use Rattle.symbol_texts.specs.Comments.{quoted_name}
use Rattle.symbol_texts.specs.Texts.{texts_of}
use Rattle.symbol_texts.proofs.TextLemmas.{map_one_more, text_at, within_texts}
use Rattle.symbol_texts.proofs.comment_lists.nonterminal_comments.Goals as goal

pub loop-nonterminal-preserved : goal.loop-nonterminal-preserved
loop-nonterminal-preserved c =
    let all = c.args.nonterminals.now in
    let i = c.loop-nonterminal.nonterminal-index in
    let text = c.nonterminal-item.result in
    ap texts_of c.in_ok-push.ensures.items
    ∙ map_one_more (quoted_name c.args.quote.now) string_bytes (texts_of all) i (string_bytes text) c.loop-nonterminal.comments.items c.in_ok-quoted_name.field-0 (within_texts all i c.loop-nonterminal-test.true) (text_at all i text c.loop-nonterminal-test.true c.nonterminal-item.is) c.loop-nonterminal.invariant c.in_ok-quoted_name.ensures
