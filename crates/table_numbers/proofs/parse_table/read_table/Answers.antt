use Rattle.std.proofs.Common.{ℕ, sym, subst}
use Rattle.std.proofs.Math.Path.{fun_ext}
use Rattle.lalrpop_base.specs.Words.{contents}
use Rattle.parse_tables.specs.Tables.{IsTableOf}
use Rattle.table_numbers.proofs.TableLemmas.{without_items}
use Rattle.table_numbers.proofs.parse_table.read_table.Goals as goal

pub returns-clause-table : goal.returns-clause-table
returns-clause-table c =
    let are = c.in_ok-states.ensures in
    let table = c.in_ok-table.table in
    let grammar = c.args.grammar.now in
    let whole : IsTableOf table (contents grammar.terminals c.in_ok-states.states.items) = subst (λ states. IsTableOf table (contents grammar.terminals states)) c.deref.ensures.value c.in_ok-table.ensures.table in
    record {
      tables = are.tables;
      laid_out = are.laid_out;
      about = are.right.about;
      table = subst (IsTableOf table) (fun_ext (λ (n : ℕ). sym (are.right.same n))) (without_items table _ whole);
    }
