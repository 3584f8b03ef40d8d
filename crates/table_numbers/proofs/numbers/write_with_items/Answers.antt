use Rattle.table_numbers.proofs.numbers.write_with_items.Goals as goal

pub returns : goal.returns
returns c = record {
  tables = c.in_ok-tables.tables;
  laid_out = c.in_ok-numbers.ensures;
  right = c.in_ok-tables.ensures.tables;
  items = c.in_ok-tables.ensures.items;
}
