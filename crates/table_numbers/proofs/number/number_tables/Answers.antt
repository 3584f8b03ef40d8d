use Rattle.std.proofs.Common.{◌≡◌, ℕ, List, map, slice_get, ◌∙◌, ap}
use Rattle.lalrpop_base.specs.Words.{rising}
use Rattle.table_numbers.specs.Contents.{contents_if}
use Rattle.table_numbers.specs.declared.tables.NumberedState.{NumberedState}
use Rattle.table_numbers.proofs.ContentsLemmas.{all_numbered}
use Rattle.table_numbers.proofs.number.number_tables.Goals as goal

pub returns-clause-tables : goal.returns-clause-tables
returns-clause-tables c =
    let lists = c.args.names.now in
    let sets = c.number_states.new.sets in
    let numbered = c.in_ok-numbered.numbered in
    let tables = c.in_ok-tables.tables in
    let listed : tables.sets ≡ map rising sets = c.in_ok-tables.ensures.sets ∙ c.in_ok-listed.ensures ∙ ap (map rising) c.all.ensures in
    record {
      about = c.in_ok-tables.ensures.about;
      same = λ n. ap (λ (x : List (List ℕ)). contents_if lists x (slice_get tables.states n)) listed
          ∙ ap (λ (x : List NumberedState). contents_if lists (map rising sets) (slice_get x n)) c.in_ok-tables.ensures.states
          ∙ all_numbered lists sets c.args.states.now numbered c.in_ok-numbered.ensures n;
    }
