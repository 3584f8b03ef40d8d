use Rattle.std.proofs.Common.{◌≡◌, map, take}
use Rattle.symbol_texts.specs.Comments.{quoted_name}
use Rattle.symbol_texts.specs.Texts.{texts_of}
use Rattle.symbol_texts.proofs.comment_lists.nonterminal_comments.Given as goal

abbrev pub invariant-loop-nonterminal : goal.invariant-loop-nonterminal
invariant-loop-nonterminal l = texts_of l.comments.items ≡ map (quoted_name l.quote) (take l.nonterminal-index (texts_of l.nonterminals))
