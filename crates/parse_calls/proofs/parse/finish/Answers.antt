use Rattle.std.proofs.Common.{IfOk, subst, sym}
use Rattle.parse_calls.specs.Answers.{IsAnswer, finished}
use Rattle.parse_calls.specs.Runs.{Run}
use Rattle.parse_calls.proofs.parse.finish.Goals as goal

pub returns : goal.returns
returns c = subst (λ (r : Run). IfOk c.after_end.result (IsAnswer (finished c.args.read r))) (sym c.in_ok-ended.ensures.same) c.after_end.ensures
