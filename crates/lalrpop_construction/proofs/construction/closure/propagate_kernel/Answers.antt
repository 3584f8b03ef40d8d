use Rattle.std.proofs.Common.{refl, arith, ◌≡◌, ◌∙◌, ◌+◌, ◌++◌, ◌∷◌, [], ap, sym, subst, take, map, List}
use Rattle.std.proofs.lemmas.List.{take_all, map-append}
use Rattle.lalrpop_base.specs.Words.{Bits, Dotted, meant, readings, item_by, items_by}
use Rattle.lalrpop_construction.specs.Words.{Propagates}
use Rattle.lalrpop_numbers.specs.declared.numbers.numbered.Numbered.{Numbered}
use Rattle.lalrpop_collections.proofs.theory.lists.Members.{Contains-none}
use Rattle.lalrpop_collections.proofs.theory.lists.Growth.{mapped_more}
use Rattle.lalrpop_construction.proofs.theory.closures.Propagation.{Propagates-nothing, Propagates-then}
use Rattle.lalrpop_construction.proofs.construction.closure.propagate_kernel.Goals as goal

pub loop-item-init : goal.loop-item-init
loop-item-init g c = record { limit = refl; shares = Propagates-nothing g.L.LookaheadBuild.begins g.L.LookaheadBuild.passes c.args.lr.now.construction.rules c.args.numbers.now [] _ _ (λ i h. absurd (Contains-none i h)) }

pub propagate-requires-clause-known : goal.propagate-requires-clause-known
propagate-requires-clause-known g c = c.requires.known c.item-item.result (c.loop-item.item-index, c.loop-item-test.true, sym c.item-item.is)

pub loop-item-preserved : goal.loop-item-preserved
loop-item-preserved g c =
    let m = g.L.Lookahead.meaning in
    let items = c.args.numbers.now.items.items in
    let xs : List (Numbered g.row.L.Denot) = c.args.kernel.now in
    let i = c.loop-item.item-index in
    let one : Dotted Bits = meant m (item_by items c.item-item.result) in
    let more : map (meant m) (items_by items (take (i + 1) xs)) ≡ map (meant m) (items_by items (take i xs)) ++ one ∷ [] =
    ap (map (meant m)) (mapped_more (item_by items) xs i c.item-item.result c.loop-item-test.true c.item-item.is) ∙ map-append (meant m) (items_by items (take i xs)) (item_by items c.item-item.result ∷ []) in
    record {
      limit = c.in_ok-propagate.ensures.limit ∙ c.loop-item.invariant.limit;
      shares = subst (λ (is : List (Dotted Bits)). Propagates g.L.LookaheadBuild.begins g.L.LookaheadBuild.passes c.args.lr.now.construction.rules c.args.numbers.now is (readings m c.args.shared.now) (readings m c.propagate.new.shared) c.args.queue.now.numbers c.propagate.new.queue.numbers) (sym more)
          (Propagates-then g.L.LookaheadBuild.begins g.L.LookaheadBuild.passes c.args.lr.now.construction.rules c.args.numbers.now (map (meant m) (items_by items (take i xs))) (one ∷ []) _ _ _ _ _ _ c.loop-item.invariant.shares c.in_ok-propagate.ensures.shares);
    }

pub returns-clause-shares : goal.returns-clause-shares
returns-clause-shares g c =
    let m = g.L.Lookahead.meaning in
    let items = c.args.numbers.now.items.items in
    subst (λ (xs : List (Numbered g.row.L.Denot)). Propagates g.L.LookaheadBuild.begins g.L.LookaheadBuild.passes c.args.lr.now.construction.rules c.args.numbers.now (map (meant m) (items_by items xs)) (readings m c.args.shared.now) (readings m c.loop-item.shared) c.args.queue.now.numbers c.loop-item.queue.numbers)
    (take_all c.loop-item.item-index c.args.kernel.now c.loop-item-test.false) c.loop-item.invariant.shares

pub propagate-requires-clause-limit : goal.propagate-requires-clause-limit
propagate-requires-clause-limit g c = omega (arith, c.requires.limit, c.loop-item.invariant.limit)
