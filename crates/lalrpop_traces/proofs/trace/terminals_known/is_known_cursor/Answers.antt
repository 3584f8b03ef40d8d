use Rattle.std.proofs.Common.{sym, ap, ◌∙◌}
use Rattle.std.specs.Prelude.{option_copied}
use Rattle.lalrpop_traces.proofs.theory.traces.KnownLabels.{known_cursor}
use Rattle.lalrpop_traces.proofs.trace.terminals_known.is_known_cursor.Goals as goal

pub returns-in-Some : goal.returns-in-Some
returns-in-Some c = (
  λ h t e. c.is_known.ensures.0 h 0 t (ap option_copied (sym c.in-Some.is) ∙ e),
  λ h. c.is_known.ensures.1 (known_cursor c.args.terminals.now c.in-Some.symbol.now (λ t e. h t (ap option_copied c.in-Some.is ∙ e))),
)
