use Rattle.std.proofs.Common.{◌∙◌, sym, ap, arith, refl}
use Rattle.std.specs.Prelude.{Some}
use Rattle.std.proofs.lemmas.Option.{slice_get_within}
use Rattle.lalrpop_grammar.specs.declared.repr.Symbol.TheVariants.{Nonterminal}
use Rattle.lalrpop_check.proofs.theory.check.CheckClosing.{Expansions-over, Expansions-none}
use Rattle.lalrpop_check.proofs.check.closing.visit_expansions.Goals as goal

pub returns : goal.returns
returns c = Expansions-over c.args.grammar.now c.args.item.now c.in-Nonterminal.name _ _ (c.in-Some.ensures.next ∙ ap Some c.in-Nonterminal.is) c.in_ok-visit_productions.ensures

pub returns-in_default-symbol : goal.returns-in_default-symbol
returns-in_default-symbol c = Expansions-none c.args.grammar.now c.args.item.now _ (λ name at.
    let next = sym c.in-Some.ensures.next ∙ at in
    let is = c.in_default-symbol.is in
    cc)

pub returns-in_default : goal.returns-in_default
returns-in_default c = Expansions-none c.args.grammar.now c.args.item.now _ (λ name at.
    let within = slice_get_within c.args.item.now.production.symbols c.args.item.now.index (Nonterminal name) at in
    let end = c.in_default.ensures.none refl in
    omega arith)
