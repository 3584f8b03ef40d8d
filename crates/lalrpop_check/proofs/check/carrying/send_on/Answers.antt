use Rattle.std.proofs.Common.{◌+◌, ◌∙◌, sym, refl, ap, subst, arith, List}
use Rattle.std.specs.Prelude.{Some}
use Rattle.std.proofs.lemmas.Option.{slice_get_within}
use Rattle.lalrpop_base.specs.Words.{IsFirstSetBefore, FitsTokens, Rules, rules_of, HasKnownTerminals}
use Rattle.lalrpop_check.proofs.Types.{Symbol}
use Rattle.lalrpop_grammar.specs.declared.repr.Symbol.TheVariants.{Nonterminal}
use Rattle.lr1_theory.proofs.theory.check.CheckSending.{CarriesFromPlace-over, CarriesFromPlace-into}
use Rattle.lalrpop_grammar.proofs.theory.grammars.Grammars.{known_symbols, known_rest}
use Rattle.lalrpop_check.proofs.check.carrying.send_on.Goals as goal

pub returns-in_default : goal.returns-in_default
returns-in_default c = CarriesFromPlace-over c.args.grammar.now c.args.states.now c.args.place.now c.in_ok-tokens.tokens _ _ _ _ (λ name at.
    let within = slice_get_within c.args.place.now.item.production.symbols c.args.place.now.item.index (Nonterminal name) at in
    let end = c.in_default.ensures.none refl in
    omega arith) c.in_ok-tokens.ensures c.in_ok-send_over.ensures

pub returns-in_default-symbol : goal.returns-in_default-symbol
returns-in_default-symbol c = CarriesFromPlace-over c.args.grammar.now c.args.states.now c.args.place.now c.in_ok-tokens.tokens _ _ _ _ (λ name at.
    let next = sym c.in-Some.ensures.next ∙ at in
    let is = c.in_default-symbol.is in
    cc) c.in_ok-tokens.ensures c.in_ok-send_over.ensures

pub first1-requires : goal.first1-requires
first1-requires c =
    let g = c.args.grammar.now in
    let p = c.args.place.now.item.production in
    record { known = subst (λ (r : Rules). HasKnownTerminals r.terminals c.in-Some.rest.now) (sym c.requires.firsts) (known_rest g.terminals (c.args.place.now.item.index + 1) p.symbols c.in-Some.rest.now (known_symbols g p c.requires.well_formed c.requires.known) c.in-Some.ensures.rest) }

pub returns : goal.returns
returns c =
    let g = c.args.grammar.now in
    let first = subst (λ (r : Rules). IsFirstSetBefore r c.in-Some.rest.now c.in_ok-tokens.tokens c.in_ok-given.given) c.requires.firsts c.in_ok-given.ensures.first in
    CarriesFromPlace-into g c.args.states.now c.args.place.now c.in_ok-tokens.tokens c.in-Nonterminal.name c.in_ok-given.given _ _ _ _ _ _ (c.in-Some.ensures.next ∙ ap Some c.in-Nonterminal.is) c.in_ok-tokens.ensures c.in_ok-send_over.ensures c.in_ok-send_productions.ensures
    (subst (λ (l : List Symbol). IsFirstSetBefore (rules_of g) l c.in_ok-tokens.tokens c.in_ok-given.given) c.in-Some.ensures.rest first)
    (subst (λ (r : Rules). FitsTokens r.terminals c.in_ok-tokens.tokens → FitsTokens r.terminals c.in_ok-given.given) c.requires.firsts c.in_ok-given.ensures.fits)
