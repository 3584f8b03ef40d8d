use Rattle.std.proofs.Common.{◌≡◌, map, take}
use Rattle.symbol_texts.specs.Comments.{quoted_terminal}
use Rattle.symbol_texts.specs.Texts.{texts_of}
use Rattle.symbol_texts.proofs.comment_lists.terminal_comments.Given as goal

abbrev pub invariant-loop-terminal : goal.invariant-loop-terminal
invariant-loop-terminal l = texts_of l.comments.items ≡ map (quoted_terminal l.quote) (take l.terminal-index (texts_of l.terminals))
