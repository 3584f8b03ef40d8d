use Rattle.std.proofs.Common.{◌∙◌, ap}
use Rattle.parse_tables.specs.Codes.{target_of}
use Rattle.parse_tables.proofs.table.ParseTable.goto.Goals as goal

pub returns : goal.returns
returns c states is name at = c.goto_of.ensures ∙ ap target_of c.get.ensures ∙ is.gotos c.args.state c.args.nonterminal name at
