use Rattle.std.proofs.Common.{sym}
use Rattle.lalrpop_lr1.proofs.theory.runs.ByTables.{are_coherent}
use Rattle.lalrpop_bench.proofs.ask.runs.parsed_by_tables.Goals as goal

pub parse_by_tables-requires-clause-coherent : goal.parse_by_tables-requires-clause-coherent
parse_by_tables-requires-clause-coherent c = are_coherent _ _ _ c.args.grammar.now _ c.in_ok-start.start (sym c.in_ok-first.ensures) c.in-Ok.states.items c.deref.result.now c.deref.ensures.value c.in-Ok.ensures.tables
