use Rattle.std.proofs.Common.{refl}
use Rattle.std.proofs.lemmas.List.{nil_from_length}
use Rattle.lalrpop_grammar.proofs.first.rests.pass.Goals as goal

pub returns-in_default : goal.returns-in_default
returns-in_default c = rw (nil_from_length c.args.symbols.now c.in_default.ensures.cases) c.release.ensures

pub returns-in-Terminal : goal.returns-in-Terminal
returns-in-Terminal c = rw (c.in-Some.ensures.cases.0, c.in-Terminal.is) (refl, refl)

pub returns-in-Nonterminal : goal.returns-in-Nonterminal
returns-in-Nonterminal c = rw (c.in-Some.ensures.cases.0, c.in-Nonterminal.is, ← c.number.ensures.place) c.list_or_put_off.ensures
