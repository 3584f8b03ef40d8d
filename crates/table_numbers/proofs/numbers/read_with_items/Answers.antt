use Rattle.table_numbers.proofs.numbers.read_with_items.Goals as goal

pub returns : goal.returns
returns c = record {
  tables = c.in_ok-tables.tables;
  laid_out = c.in_ok-tables.ensures;
  right = c.in_ok-states.ensures.tables;
  items = c.in_ok-states.ensures.items;
}
