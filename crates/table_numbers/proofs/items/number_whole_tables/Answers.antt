use Rattle.std.proofs.Common.{◌≡◌, ℕ, List, map, slice_get, sym, ◌∙◌, ap, subst}
use Rattle.lalrpop_base.specs.Words.{Bits, bits_of, rising}
use Rattle.lalrpop_grammar.specs.declared.repr.Production.{Production}
use Rattle.table_numbers.specs.Contents.{contents_if}
use Rattle.table_numbers.specs.Items.{AreListsOf}
use Rattle.table_numbers.specs.Lists.{Lists}
use Rattle.table_numbers.specs.declared.tables.NumberedItem.{NumberedItem}
use Rattle.table_numbers.specs.declared.tables.NumberedState.{NumberedState}
use Rattle.table_numbers.proofs.ContentsLemmas.{all_numbered, sets_of_rising}
use Rattle.table_numbers.proofs.NumberedLemmas.{kept_states}
use Rattle.table_numbers.proofs.items.number_whole_tables.Goals as goal

pub returns-clause-tables : goal.returns-clause-tables
returns-clause-tables c =
    let lists = c.args.names.now in
    let states = c.args.states.now in
    let old = c.number_states.new.sets in
    let sets = c.number_lists.new.sets in
    let numbered = c.in_ok-numbered.numbered in
    let tables = c.in_ok-tables.tables in
    let listed : tables.sets ≡ map rising sets = c.in_ok-tables.ensures.sets ∙ c.in_ok-listed.ensures ∙ ap (map rising) c.all.ensures in
    record {
      about = c.in_ok-tables.ensures.about;
      same = λ n. ap (λ (x : List (List ℕ)). contents_if lists x (slice_get tables.states n)) listed
          ∙ ap (λ (x : List NumberedState). contents_if lists (map rising sets) (slice_get x n)) c.in_ok-tables.ensures.states
          ∙ all_numbered lists sets states numbered (kept_states lists old sets c.in_ok-items.ensures.kept states numbered c.in_ok-numbered.ensures) n;
    }

pub returns-clause-items : goal.returns-clause-items
returns-clause-items c =
    let lists = c.args.names.now in
    let states = c.args.states.now in
    let sets = c.number_lists.new.sets in
    let items = c.in_ok-items.items in
    let tables = c.in_ok-tables.tables in
    let listed : tables.sets ≡ map rising sets = c.in_ok-tables.ensures.sets ∙ c.in_ok-listed.ensures ∙ ap (map rising) c.all.ensures in
    let bits : map bits_of tables.sets ≡ sets = ap (map bits_of) listed ∙ sets_of_rising sets in
    let named : AreListsOf lists.productions sets states items = subst (λ (ps : List Production). AreListsOf ps sets states items) (ap (λ (x : Lists). x.productions) c.names.view_is) c.in_ok-items.ensures.lists in
    let held : AreListsOf lists.productions (map bits_of tables.sets) states items = subst (λ (b : List Bits). AreListsOf lists.productions b states items) (sym bits) named in
    subst (λ (xs : List (List NumberedItem)). AreListsOf lists.productions (map bits_of tables.sets) states xs) (sym c.in_ok-tables.ensures.items) held
