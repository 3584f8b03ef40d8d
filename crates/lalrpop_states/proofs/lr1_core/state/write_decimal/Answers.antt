use Rattle.std.proofs.Common.{◌≡◌, ◌∙◌, List, ℕ, decimal, subst}
use Rattle.std.specs.Fmt.{HasWritten, HasWrittenStyled}
use Rattle.std.specs.Fmt.InlineText.{inline_text}
use Rattle.lalrpop_collections.proofs.theory.lists.Written.{inline_written}
use Rattle.lalrpop_states.proofs.lr1_core.state.write_decimal.Goals as goal

pub returns-clause-writes : goal.returns-clause-writes
returns-clause-writes g c = λ plain ok.
    let text : inline_text c.write.new.self ≡ decimal c.args.number = inline_written c.new-digits.result (decimal c.args.number) c.write.new.self c.new-digits.ensures.intact c.new-digits.ensures.text c.in_ok-write.ensures.writes in
    subst (λ (t : List ℕ). HasWritten g.W.Write.write_str_gives c.args.f.now t c.write_str.new.self) (c.as_str.ensures.value ∙ text) (c.write_str.ensures.writes plain ok)

pub returns-clause-styled : goal.returns-clause-styled
returns-clause-styled g c = λ flush ok.
    let text : inline_text c.write.new.self ≡ decimal c.args.number = inline_written c.new-digits.result (decimal c.args.number) c.write.new.self c.new-digits.ensures.intact c.new-digits.ensures.text c.in_ok-write.ensures.writes in
    subst (λ (t : List ℕ). HasWrittenStyled g.W.Write.write_str_gives c.args.f.now t c.write_str.new.self) (c.as_str.ensures.value ∙ text) (c.write_str.ensures.styled flush ok)
