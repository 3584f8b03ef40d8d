use Rattle.std.proofs.Common.{◌≡◌, ◌+◌, ◌++◌, List, map, drop, slice_get, get_or, Option, Some, option_map, refl, sym, ◌∙◌, ap}
use Rattle.std.specs.Borrow.{Bor}
use Rattle.std.proofs.lemmas.Option.{slice_get-map}
use Rattle.lalrpop_base.specs.Words.{Bits}
use Rattle.lalrpop_collections.proofs.theory.lists.Places.{slice_get_at}
use Rattle.lalrpop_grammar.specs.declared.repr.Production.{Production}
use Rattle.table_numbers.specs.Made.{borrowed}
use Rattle.table_numbers.specs.Numbered.{reduction_at, reduction_parts}
use Rattle.table_numbers.proofs.ListSteps.{next_seen}
use Rattle.table_numbers.proofs.states.make_reductions.Goals as goal

pub loop-number-preserved : goal.loop-number-preserved
loop-number-preserved c =
    let ps = c.args.productions.now in
    let sets = c.args.sets.now in
    let pairs = c.args.pairs.now in
    let i = c.loop-number.number-index in
    let pair = get_or pairs i (0, 0) in
    let production = c.in-Some.production.now in
    let first = c.in-Some.ensures.lookup in
    let second = c.in-Some-get.ensures.lookup in
    let listed : slice_get (borrowed ps) pair.0 ≡ Some production.now = slice_get-map (λ (p : Bor Production). p.now) ps pair.0 ∙ ap (option_map (λ (p : Bor Production). p.now)) (slice_get_at ps pair.0 production first.3.0 first.1) in
    let held : slice_get sets pair.1 ≡ Some c.in_ok-clone.field-0 = slice_get_at sets pair.1 c.in-Some-get.tokens.now second.3.0 second.1 ∙ ap (λ (s : Bits). Some s) (sym c.in_ok-clone.ensures) in
    let same : reduction_parts (c.in_ok-clone.field-0, production) ≡ reduction_at (borrowed ps) sets pair = sym (ap (λ (o : Option Production). (o, slice_get sets pair.1)) listed ∙ ap (λ (o : Option Bits). (Some production.now, o)) held) in
    ap (λ (rs : List (Bits × Bor Production)). map reduction_parts rs ++ map (reduction_at (borrowed ps) sets) (drop (i + 1) pairs)) c.in_ok-push.ensures.items
    ∙ next_seen pairs i pair (0, 0) c.loop-number-test.true refl (Bits × Bor Production) (Option Production × Option Bits) reduction_parts (reduction_at (borrowed ps) sets) c.loop-number.reductions.items _ (c.in_ok-clone.field-0, production) same c.loop-number.invariant
