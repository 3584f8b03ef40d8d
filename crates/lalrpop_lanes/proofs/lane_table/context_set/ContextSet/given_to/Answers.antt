use Rattle.std.proofs.Common.{◌≡◌, arith, List, sym, ap, ◌∙◌, slice_get, length, ◌<◌}
use Rattle.std.proofs.lemmas.Option.{slice_get_within}
use Rattle.lalrpop_base.specs.Words.{Bits}
use Rattle.lalrpop_lanes.proofs.theory.lanes.Contexts.{took_more}
use Rattle.lalrpop_collections.proofs.theory.lists.Places.{slice_get_at}
use Rattle.lalrpop_lanes.proofs.lane_table.context_set.ContextSet.given_to.Goals as goal

pub loop-tokens-preserved : goal.loop-tokens-preserved
loop-tokens-preserved c =
    let at = slice_get_at _ _ _ c.loop-tokens-test.true c.loop-tokens-item.is in
    let inside : c.self.inside.values.items ≡ c.args.self.now = c.self.view_is in
    let within : c.place_of_reduction-place.result < length c.self.inside.values.items =
    let w = slice_get_within c.args.actions.now.keys c.place_of_reduction-place.result _ c.place_of_reduction-place.ensures.action in
    let l = ap (λ (xs : List Bits). length xs) inside in
    omega (arith, c.requires.counted) in
    let column = ap (λ xs. slice_get xs c.place_of_reduction-place.result) (sym inside) ∙ slice_get_at _ _ _ within c.index.ensures in
    rw (c.in_ok-push.ensures.items, c.in_ok-clone.ensures) (took_more _ _ _ _ _ _ _ _ c.loop-tokens.invariant at c.place_of_reduction-place.ensures column)
