use Rattle.std.proofs.Common.{◌≡◌, List, length, map, ◌∙◌, ap, subst}
use Rattle.lalrpop_base.specs.Words.{bits_of, contents}
use Rattle.table_numbers.specs.Items.{AreListsOf, HaveItemsOf}
use Rattle.table_numbers.specs.Lists.{Lists}
use Rattle.table_numbers.specs.Numbers.{AreTablesOf}
use Rattle.table_numbers.specs.declared.tables.NumberedItem.{NumberedItem}
use Rattle.table_numbers.proofs.tables.NumberedTables.to_states_with_items.Goals as goal

pub returns-clause-tables : goal.returns-clause-tables
returns-clause-tables c = subst (λ (x : Lists). AreTablesOf x c.args.self.now (contents x.terminals c.in_ok-states.states.items)) c.in_ok-names.ensures (c.in_ok-states.ensures.tables c.in_ok-names.ensures)

pub returns-clause-items : goal.returns-clause-items
returns-clause-items c =
    let t = c.args.self.now in
    let states = c.in_ok-states.states.items in
    let names = c.in_ok-names.names in
    let many : length c.as_slice.result.now ≡ length t.states = ap (λ (xs : List (List NumberedItem)). length xs) c.as_slice.ensures ∙ c.in_ok-check_lists.ensures in
    let held : HaveItemsOf names t states = subst (λ (xs : List (List NumberedItem)). AreListsOf names.productions (map bits_of t.sets) states xs) c.as_slice.ensures (c.in_ok-states.ensures.items c.in_ok-names.ensures many) in
    subst (λ (x : Lists). HaveItemsOf x t states) c.in_ok-names.ensures held
