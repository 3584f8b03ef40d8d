use Rattle.std.proofs.Common.{sym, ◌∙◌}
use Rattle.parse_pictures.proofs.TreeLines.{mark_some}
use Rattle.parse_pictures.proofs.lines.node_mark.Goals as goal

pub returns-else-is_empty : goal.returns-else-is_empty
returns-else-is_empty c name = mark_some name c.args.children.now (sym c.is_empty.ensures ∙ c.if-is_empty.false)
