use Rattle.table_numbers.proofs.numbers.write.Goals as goal

pub returns : goal.returns
returns c = record {
  tables = c.in_ok-tables.tables;
  laid_out = c.in_ok-numbers.ensures;
  right = c.in_ok-tables.ensures.tables;
}
