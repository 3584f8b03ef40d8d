use Rattle.std.proofs.Common.{◌≡◌, ℕ, ◌<◌, length, slice_get, get_or, Option, refl, arith}
use Rattle.lalrpop_grammar.specs.declared.repr.NonterminalString.{NonterminalString}
use Rattle.lalrpop_grammar.specs.declared.repr.Production.{Production}
use Rattle.table_numbers.specs.Lists.{side_of}
use Rattle.table_numbers.proofs.MadeLemmas.{next_same}
use Rattle.table_numbers.proofs.states.are_sides.Goals as goal

pub loop-place-preserved : goal.loop-place-preserved
loop-place-preserved c =
    let sides = c.args.sides.now in
    let productions = c.args.productions.now in
    let place = c.loop-place.place in
    let production = c.index-productions-place.result in
    let l : place < length sides = c.loop-place-test.true in
    let same : length sides ≡ length productions = c.if-sides-productions.false in
    let m : place < length productions = omega (arith, l, same) in
    next_same (ℕ × ℕ) Production (Option NonterminalString × ℕ) (λ (p : ℕ × ℕ). (slice_get c.args.nonterminals.now p.0, p.1)) side_of sides productions place (get_or sides place (0, 0)) (0, 0) production production l m refl c.index-productions-place.is (c.if-not-is_side.ensures refl) c.loop-place.invariant
