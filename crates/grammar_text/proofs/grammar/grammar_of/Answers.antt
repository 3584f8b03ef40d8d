use Rattle.std.proofs.Common.{refl}
use Rattle.grammar_text.proofs.WellFormed.{stands_for}
use Rattle.grammar_text.proofs.grammar.grammar_of.Goals as goal

pub returns : goal.returns
returns c = λ lines was. stands_for lines c.args.collected _ was refl c.in_ok-terminals.ensures.value c.in_ok-terminals.ensures.ascending refl refl
