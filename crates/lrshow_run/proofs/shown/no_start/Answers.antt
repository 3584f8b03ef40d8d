use Rattle.std.proofs.Common.{◌∙◌, ap}
use Rattle.std.proofs.lemmas.Result.{IfOk-weaker}
use Rattle.lrshow_run.specs.Shown.{no_start_text}
use Rattle.lrshow_run.proofs.shown.no_start.Goals as goal

pub returns : goal.returns
returns c = IfOk-weaker c.wrong_request.result _ _ (λ s out. record {
  ended = out.ended;
  whole = out.whole;
  remarked = out.remarked ∙ c.in_ok-message.ensures ∙ ap (no_start_text c.args.start.now) c.in_ok-near.ensures.first;
}) c.wrong_request.ensures
