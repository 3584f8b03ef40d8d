use Rattle.std.proofs.Common.{◌∙◌}
use Rattle.std.proofs.lemmas.Result.{IfOk-weaker}
use Rattle.lrshow_run.proofs.shown.no_state.Goals as goal

pub returns : goal.returns
returns c = IfOk-weaker c.wrong_request.result _ _ (λ s out. record { ended = out.ended; whole = out.whole; remarked = out.remarked ∙ c.in_ok-format.ensures.ok }) c.wrong_request.ensures
