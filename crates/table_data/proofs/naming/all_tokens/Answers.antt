use Rattle.table_data.proofs.NamedSets.{is_all_tokens}
use Rattle.table_data.proofs.naming.all_tokens.Goals as goal

pub returns : goal.returns
returns c = is_all_tokens c.args.terminals.now c.in_ok-all.all c.in_ok-all.ensures
