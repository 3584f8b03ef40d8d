use Rattle.std.proofs.Common.{string_bytes, ap, ◌∙◌}
use Rattle.symbol_texts.specs.Comments.{quoted_terminal}
use Rattle.symbol_texts.specs.Texts.{texts_of}
use Rattle.symbol_texts.proofs.TextLemmas.{map_one_more, text_at, within_texts}
use Rattle.symbol_texts.proofs.comment_lists.terminal_comments.Goals as goal

pub loop-terminal-preserved : goal.loop-terminal-preserved
loop-terminal-preserved c =
    let all = c.args.terminals.now in
    let i = c.loop-terminal.terminal-index in
    let text = c.terminal-item.result in
    ap texts_of c.in_ok-push.ensures.items
    ∙ map_one_more (quoted_terminal c.args.quote.now) string_bytes (texts_of all) i (string_bytes text) c.loop-terminal.comments.items c.in_ok-quoted_terminal.field-0 (within_texts all i c.loop-terminal-test.true) (text_at all i text c.loop-terminal-test.true c.terminal-item.is) c.loop-terminal.invariant c.in_ok-quoted_terminal.ensures
