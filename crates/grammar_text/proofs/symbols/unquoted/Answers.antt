use Rattle.std.proofs.Common.{None, lit<}
use Rattle.std.proofs.lemmas.Str.Pattern.{strip_prefix_char}
use Rattle.grammar_text.proofs.Texts.{not_quoted}
use Rattle.grammar_text.proofs.symbols.unquoted.Goals as goal

pub returns-in-None : goal.returns-in-None
returns-in-None c = not_quoted _ (strip_prefix_char 34 c.args.word.now None c.in-None.ensures.cases (lit< tt))
