use Rattle.std.proofs.Common.{None, Some, lit<, sym, ap, ◌∙◌}
use Rattle.std.proofs.lemmas.Str.Pattern.{strip_suffix_char}
use Rattle.grammar_text.specs.Lines.{without_cr}
use Rattle.grammar_text.proofs.Texts.{cr_cut, cr_none}
use Rattle.grammar_text.proofs.lines.before_cr.Goals as goal

pub returns-in-None : goal.returns-in-None
returns-in-None c = sym (cr_none _ (strip_suffix_char 13 c.args.line.now None c.in-None.ensures.cases (lit< tt)))

pub returns-in-Some : goal.returns-in-Some
returns-in-Some c =
    let e = strip_suffix_char 13 c.args.line.now (Some c.in-Some.front) c.in-Some.ensures.cases (lit< tt) in
    sym (ap without_cr e ∙ cr_cut c.in-Some.front.now)
