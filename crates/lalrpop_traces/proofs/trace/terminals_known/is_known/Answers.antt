use Rattle.std.proofs.Common.{ap, sym, ◌∙◌}
use Rattle.std.specs.Prelude.{Some}
use Rattle.lalrpop_traces.proofs.theory.traces.KnownLabels.{there_is, known_there}
use Rattle.lalrpop_traces.proofs.trace.terminals_known.is_known.Goals as goal

pub returns-in-Terminal : goal.returns-in-Terminal
returns-in-Terminal c = (
  λ h. known_there c.args.terminals.now c.args.symbol.now c.in-Terminal.terminal c.bit.result c.in-Terminal.is c.bit.ensures.found (sym c.is_some.ensures ∙ h),
  λ h. c.is_some.ensures ∙ there_is c.bit.result (λ none. c.bit.ensures.absent none (h 0 c.in-Terminal.terminal (ap (λ x. Some x) c.in-Terminal.is))),
)
