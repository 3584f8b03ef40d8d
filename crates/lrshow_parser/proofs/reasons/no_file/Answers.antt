use Rattle.std.proofs.Common.{string_bytes}
use Rattle.std.proofs.lemmas.Result.{IfOk-weaker}
use Rattle.lrshow_parser.proofs.reasons.no_file.Goals as goal

pub returns : goal.returns
returns c = IfOk-weaker c.wrong_request.result _ _ (λ s out. record { remark = string_bytes c.in_ok-format.field-0; shown = out }) c.wrong_request.ensures
