use Rattle.std.proofs.Common.{⊎_elim, arith}
use Rattle.std.proofs.lemmas.Bool.{cases_lt}
use Rattle.std.proofs.lemmas.List.{get_or_past}
use Rattle.parse_tables.proofs.cells.write_row.Goals as goal

pub returns : goal.returns
returns c = record {
  written = λ column some. ⊎_elim
      (λ l. c.loop-column.invariant.written column l some)
      (λ l. absurd (some (get_or_past c.args.row.now column 0 (omega (arith, l, c.loop-column-test.false)))))
      (cases_lt column c.loop-column.column);
  kept = λ k none. c.loop-column.invariant.kept k (λ column l e. none column e);
}
