use Rattle.std.proofs.Common.{◌∙◌, [], ◌∷◌, List, ap, map, refl, subst}
use Rattle.lalrpop_base.specs.Words.{AreItemsBy, Dotted, item_at_start, items_by}
use Rattle.lalrpop_construction.proofs.theory.construction.NumberedBuilding.{Building-begun, same_kernels}
use Rattle.lalrpop_construction.proofs.theory.construction.NumberedEdges.{first_numbered, only_numbered}
use Rattle.lalrpop_construction.proofs.construction.states.first_kernels.Goals as goal

pub returns : goal.returns
returns g c =
    let items = c.args.numbers.now.items.items in
    let k = c.args.lr.now.construction in
    let first : List (Dotted g.row.L.Denot) = map (item_at_start k.lookahead) k.first in
    let one = first_numbered _ _ _ (ap (λ k. k.list) c.new-kernels.ensures) c.in_ok-add_state.ensures.added in
    let is = same_kernels _ _ _ (ap (map (items_by items)) one ∙ ap (λ k. k ∷ []) c.in_ok-start_kernel.ensures.kernel) (c.in_ok-add_state.ensures.handed ∙ ap (λ k. k.handed) c.new-kernels.ensures) in
    let of = subst (AreItemsBy g.L.Lookahead.meaning k.rules) c.in_ok-start_kernel.ensures.kernel c.in_ok-start_kernel.ensures.items in
    record { building = Building-begun _ _ k.rules first items c.add_state.new.self [] is refl of; numbered = only_numbered items _ _ one c.in_ok-start_kernel.ensures.known }
