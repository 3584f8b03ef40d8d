use Rattle.std.proofs.Common.{List, ◌∙◌, arith, subst}
use Rattle.std.proofs.lemmas.Result.{IfOk-weaker}
use Rattle.lalrpop_base.specs.Words.{Bits}
use Rattle.lalrpop_states.specs.declared.lr1_core.state.State.{State}
use Rattle.lrshow_run.specs.Shown.{IsNearChoice}
use Rattle.lrshow_run.proofs.shown.graph_near.Goals as goal

pub returns : goal.returns
returns c = IfOk-weaker c.whole.result _ _ (λ s out. (
  (λ within. record {
    chosen = c.in_ok-chosen.chosen;
    right = subst (λ (l : List (State Bits)). IsNearChoice l c.args.number c.args.depth c.in_ok-chosen.chosen) c.deref.ensures.value c.in_ok-chosen.ensures;
    shown = record { ended = out.ended; whole = out.whole ∙ c.in_ok-text.ensures; remarked = out.remarked };
  }),
  (λ past. absurd (omega (arith, past, c.if-number-len.false, c.len.ensures))),
)) c.whole.ensures
