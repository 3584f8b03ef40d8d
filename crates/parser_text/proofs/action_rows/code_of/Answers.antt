use Rattle.std.proofs.Common.{length, refl, ap, ◌∙◌, arith}
use Rattle.parser_text.specs.Hidden.{hidden_now, shown_entry}
use Rattle.parser_text.proofs.Codes.{code_of-shift, no_code}
use Rattle.parser_text.proofs.action_rows.code_of.Goals as goal

pub returns-in-None : goal.returns-in-None
returns-in-None c = λ states is token next at. no_code c.args.listed.now.productions 0 refl ∙ ap (shown_entry (hidden_now c.args.hidden)) (c.in-None.ensures states is token next at)

pub returns-in_ok-code-in-Shift : goal.returns-in_ok-code-in-Shift
returns-in_ok-code-in-Shift c =
    let same = ap length c.productions-productions.ensures in
    λ states is token next at. code_of-shift c.args.listed.now.productions c.in_ok-code-in-Shift.code c.in-Shift.target (omega (arith, same)) ∙ ap (shown_entry (hidden_now c.args.hidden)) (c.in-Shift.ensures states is token next at)
