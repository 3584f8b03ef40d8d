use Rattle.std.proofs.Common.{refl, arith, ◌≡◌, ◌∙◌, ◌+◌, ◌++◌, ◌∷◌, [], ℕ, ap, sym, subst, take, map, List}
use Rattle.std.specs.Prelude.{get_or}
use Rattle.std.proofs.lemmas.List.{take_all, map-append}
use Rattle.lalrpop_base.specs.Words.{Bits, Dotted, readings, item_by, items_by}
use Rattle.lalrpop_construction.specs.Words.{Propagates, expansions_in}
use Rattle.lalrpop_numbers.specs.declared.numbers.numbered.Numbered.{Numbered}
use Rattle.lalrpop_collections.proofs.theory.lists.Members.{contains_map, Contains-none}
use Rattle.lalrpop_construction.proofs.theory.closures.PropagatedItems.{read_within}
use Rattle.lalrpop_collections.proofs.theory.lists.Growth.{mapped_more}
use Rattle.lalrpop_construction.proofs.theory.closures.Propagation.{Propagates-nothing, Propagates-then}
use Rattle.lalrpop_construction.proofs.construction.closure.propagate_expansions.Goals as goal

pub loop-number-init : goal.loop-number-init
loop-number-init g c = record { limit = refl; shares = Propagates-nothing g.L.LookaheadBuild.begins g.L.LookaheadBuild.passes c.args.lr.now.construction.rules c.args.numbers.now [] _ _ (λ i h. absurd (Contains-none i h)) }

pub propagate-requires-clause-known : goal.propagate-requires-clause-known
propagate-requires-clause-known g c =
    let front : ℕ → Numbered Bits = λ k. record { number = k; lookahead = g.L.Lookahead.meaning c.args.tokens.now } in
    let i = c.loop-number.number-index in
    let x = get_or c.args.expansions.now i 0 in
    c.requires.known (front x) (contains_map front c.args.expansions.now x (i, c.loop-number-test.true, sym (read_within c.args.expansions.now i c.loop-number-test.true)))

pub loop-number-preserved : goal.loop-number-preserved
loop-number-preserved g c =
    let m = g.L.Lookahead.meaning in
    let items = c.args.numbers.now.items.items in
    let front : ℕ → Numbered Bits = λ k. record { number = k; lookahead = m c.args.tokens.now } in
    let xs : List ℕ = c.args.expansions.now in
    let i = c.loop-number.number-index in
    let x = get_or xs i 0 in
    let one : Dotted Bits = item_by items (front x) in
    let more : items_by items (map front (take (i + 1) xs)) ≡ items_by items (map front (take i xs)) ++ one ∷ [] =
    ap (items_by items) (mapped_more front xs i x c.loop-number-test.true (read_within xs i c.loop-number-test.true)) ∙ map-append (item_by items) (map front (take i xs)) (front x ∷ []) in
    record {
      limit = c.in_ok-propagate.ensures.limit ∙ c.loop-number.invariant.limit;
      shares = subst (λ (is : List (Dotted Bits)). Propagates g.L.LookaheadBuild.begins g.L.LookaheadBuild.passes c.args.lr.now.construction.rules c.args.numbers.now is (readings m c.args.shared.now) (readings m c.propagate.new.shared) c.args.queue.now.numbers c.propagate.new.queue.numbers) (sym more)
          (Propagates-then g.L.LookaheadBuild.begins g.L.LookaheadBuild.passes c.args.lr.now.construction.rules c.args.numbers.now (items_by items (map front (take i xs))) (one ∷ []) _ _ _ _ _ _ c.loop-number.invariant.shares c.in_ok-propagate.ensures.shares);
    }

pub returns-clause-shares : goal.returns-clause-shares
returns-clause-shares g c =
    let m = g.L.Lookahead.meaning in
    let items = c.args.numbers.now.items.items in
    subst (λ (xs : List ℕ). Propagates g.L.LookaheadBuild.begins g.L.LookaheadBuild.passes c.args.lr.now.construction.rules c.args.numbers.now (items_by items (expansions_in (m c.args.tokens.now) xs)) (readings m c.args.shared.now) (readings m c.loop-number.shared) c.args.queue.now.numbers c.loop-number.queue.numbers)
    (take_all c.loop-number.number-index c.args.expansions.now c.loop-number-test.false) c.loop-number.invariant.shares

pub propagate-requires-clause-limit : goal.propagate-requires-clause-limit
propagate-requires-clause-limit g c = omega (arith, c.requires.limit, c.loop-number.invariant.limit)
