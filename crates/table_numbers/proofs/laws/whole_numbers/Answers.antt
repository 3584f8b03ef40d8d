use Rattle.table_numbers.proofs.ItemLemmas.{whole_numbers}
use Rattle.table_numbers.proofs.laws.whole_numbers.Goals as goal

pub returns : goal.returns
returns c = record { whole = whole_numbers }
