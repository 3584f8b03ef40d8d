use Rattle.std.proofs.Common.{sym, ap, ◌∙◌}
use Rattle.parser_text.specs.Hidden.{hidden_now, is_hidden}
use Rattle.parser_text.proofs.HiddenLemmas.{is_same_name}
use Rattle.parser_text.proofs.listing.is_hidden.Goals as goal

pub returns-in-Some : goal.returns-in-Some
returns-in-Some c =
    let p = c.args.production.now in
    is_same_name c.in-Some.name.now p.nonterminal c.equal.result c.equal.ensures
    ∙ ap (λ h. is_hidden (hidden_now h) p) (sym c.in-Some.is)
