use Rattle.std.proofs.Common.{IfOk, subst, sym}
use Rattle.parse_calls.specs.Answers.{Numbers}
use Rattle.parse_calls.specs.Expected.{AreListed}
use Rattle.parse_calls.proofs.Parses.{expected_is}
use Rattle.parse_calls.proofs.expected.answer_to.Goals as goal

pub returns : goal.returns
returns c = subst (λ (n : Numbers). IfOk c.after_tokens.result (AreListed n))
    (sym (expected_is c.args.tables.now c.args.tokens.now c.args.limit c.in-Some.counts c.in-Some.ensures c.in_ok-machine.ensures.stack c.in_ok-machine.ensures.events c.in_ok-machine.ensures.left c.in_ok-end.ensures))
    c.after_tokens.ensures
