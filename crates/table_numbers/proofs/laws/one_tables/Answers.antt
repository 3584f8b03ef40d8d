use Rattle.table_numbers.proofs.UniqueLemmas.{one_tables}
use Rattle.table_numbers.proofs.laws.one_tables.Goals as goal

pub returns : goal.returns
returns c = record { one = one_tables }
