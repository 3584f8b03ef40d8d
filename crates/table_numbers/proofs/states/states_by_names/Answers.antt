use Rattle.std.proofs.Common.{ℕ, List, map, sym, ◌∙◌, ap, subst}
use Rattle.std.specs.Borrow.{Bor}
use Rattle.lalrpop_base.specs.Words.{Bits, bits_of}
use Rattle.lalrpop_grammar.specs.declared.repr.Production.{Production}
use Rattle.table_numbers.specs.Items.{AreItemsOf, list_at, list_if}
use Rattle.table_numbers.specs.Lists.{Lists}
use Rattle.table_numbers.specs.Made.{borrowed}
use Rattle.table_numbers.specs.declared.tables.NumberedItem.{NumberedItem}
use Rattle.table_numbers.proofs.ContentsLemmas.{all_made}
use Rattle.table_numbers.proofs.states.states_by_names.Goals as goal

pub returns-clause-tables : goal.returns-clause-tables
returns-clause-tables c same =
    let lists = c.args.names.now in
    let tables = c.args.tables.now in
    let productions = ap (λ (ps : List (Bor Production)). borrowed ps) c.deref.ensures.value ∙ c.in_ok-productions.ensures ∙ ap (λ (x : Lists). x.productions) (sym same) in
    let sets = c.deref-2.ensures.value ∙ c.in_ok-sets.ensures ∙ ap (λ (xs : List (List ℕ)). map bits_of xs) c.as_slice.ensures in
    record {
      about = c.in_ok-check_about.ensures;
      same = all_made lists tables.sets tables.states c.in_ok-states.states.items (c.in_ok-states.ensures.made productions sets);
    }

pub returns-clause-items : goal.returns-clause-items
returns-clause-items c same many =
    let lists = c.args.names.now in
    let tables = c.args.tables.now in
    let all = c.args.lists.now in
    let productions = ap (λ (ps : List (Bor Production)). borrowed ps) c.deref.ensures.value ∙ c.in_ok-productions.ensures ∙ ap (λ (x : Lists). x.productions) (sym same) in
    let sets = c.deref-2.ensures.value ∙ c.in_ok-sets.ensures ∙ ap (λ (xs : List (List ℕ)). map bits_of xs) c.as_slice.ensures in
    let made = c.in_ok-states.ensures.made productions sets in
    record {
      counted = many ∙ sym made.counted;
      each = λ n state items at_n at_items.
          subst (λ (xs : List NumberedItem). AreItemsOf lists.productions (map bits_of tables.sets) xs state) (ap list_if at_items)
          (subst (λ (b : List Bits). AreItemsOf lists.productions b (list_at all n) state) sets
          (subst (λ (ps : List Production). AreItemsOf ps c.deref-2.result.now (list_at all n) state) productions (c.in_ok-states.ensures.items n state at_n)));
    }
