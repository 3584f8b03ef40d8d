use Rattle.std.proofs.Common.{◌≡◌, map, take}
use Rattle.symbol_texts.specs.Comments.{quoted_production}
use Rattle.symbol_texts.specs.Texts.{texts_of}
use Rattle.symbol_texts.proofs.comment_lists.production_comments.Given as goal

abbrev pub invariant-loop-production : goal.invariant-loop-production
invariant-loop-production l = texts_of l.comments.items ≡ map (quoted_production l.quote) (take l.production-index l.productions)
