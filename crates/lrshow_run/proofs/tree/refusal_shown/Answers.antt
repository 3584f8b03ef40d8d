use Rattle.std.proofs.Common.{◌∙◌, ap}
use Rattle.std.proofs.lemmas.Result.{IfOk-weaker}
use Rattle.program_answers.specs.Texts.{line}
use Rattle.table_pictures.specs.Escape.{pictured_text}
use Rattle.lrshow_run.proofs.tree.refusal_shown.Goals as goal

pub returns : goal.returns
returns c = IfOk-weaker c.refused.result _ _ (λ s out. record {
  count = c.in_ok-count.count;
  counted = c.in_ok-count.ensures;
  expected = c.in_ok-expected.expected;
  next = c.in_ok-expected.ensures.terminals;
  ending = c.in_ok-expected.ensures.end;
  shown = record { ended = out.ended; whole = out.whole; remarked = out.remarked ∙ ap (λ m. line (pictured_text m)) (c.as_str.ensures.value ∙ c.in_ok-message.ensures) };
}) c.refused.ensures
