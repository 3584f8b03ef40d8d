use Rattle.std.proofs.Common.{IfOk, subst, sym}
use Rattle.parse_calls.specs.Answers.{IsAnswer, Parse}
use Rattle.parse_calls.proofs.Parses.{parse_is}
use Rattle.parse_calls.proofs.parse.answer_to.Goals as goal

pub returns : goal.returns
returns c = subst (λ (p : Parse). IfOk c.after_tokens.result (IsAnswer p))
    (sym (parse_is c.args.tables.now c.args.tokens.now c.args.limit c.in-Some.counts c.in-Some.ensures c.in_ok-machine.ensures.stack c.in_ok-machine.ensures.events c.in_ok-machine.ensures.left c.in_ok-end.ensures))
    c.after_tokens.ensures
