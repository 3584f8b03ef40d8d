use Rattle.std.proofs.Common.{◌≡◌, ◌<◌, length, refl, sym, ◌∙◌, arith}
use Rattle.std.specs.Prelude.{slice_get, Some}
use Rattle.std.proofs.lemmas.Bool.{false≢true}
use Rattle.std.proofs.lemmas.Option.{slice_get_read, slice_get_within}
use Rattle.lalrpop_grammar.specs.declared.repr.Production.{Production}
use Rattle.any_start_parser.proofs.Numbers.{none_more}
use Rattle.any_start_parser.proofs.production.production_from.Goals as goal

pub loop-number-preserved : goal.loop-number-preserved
loop-number-preserved c =
    let productions = c.args.productions.now in
    let number = c.loop-number.number in
    let p : Production = c.index-productions-number.result in
    let at : slice_get productions number ≡ Some p = slice_get_read productions (length productions) number p refl c.loop-number-test.true c.index-productions-number.is in
    none_more productions c.args.name.now c.args.from number p at (λ e. false≢true (sym c.if-equal.false ∙ c.equal.ensures.1 e)) c.loop-number.invariant

pub returns-clause-absent : goal.returns-clause-absent
returns-clause-absent c = λ none k least of.
    let within : k < length c.args.productions.now = slice_get_within c.args.productions.now k of.0 of.1 in
    c.loop-number.invariant k least (omega (arith, within, c.loop-number-test.false)) of
