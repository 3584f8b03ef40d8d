use Rattle.std.proofs.Common.{◌≡◌, ◌<◌, ℕ, List, [], rules, arith, sym, subst, map}
use Rattle.std.specs.Prelude.{Contains}
use Rattle.std.proofs.lemmas.Grind.{common_steps}
use Rattle.std.proofs.lemmas.List.{nil_from_length}
use Rattle.lalrpop_base.specs.Words.{Bits, Dotted, meant, items_by}
use Rattle.lalrpop_collections.proofs.theory.lists.Members.{contains_head}
use Rattle.lalrpop_construction.proofs.theory.closures.Readings.{items_meant}
use Rattle.lalrpop_collections.proofs.theory.collections.JoinedEntries.{readings_keys}
use Rattle.lalrpop_construction.proofs.theory.closures.PropagatedItems.{front_known, fronts_are, number_known}
use Rattle.lalrpop_construction.proofs.theory.closures.Propagation.{Sharing-start, Sharing-step, Sharing-smaller}
use Rattle.lalrpop_construction.proofs.construction.closure.propagate_all.Goals as goal

pub loop-symbol-init : goal.loop-symbol-init
loop-symbol-init g c =
    let m = g.L.Lookahead.meaning in
    let kernel : List (Dotted Bits) = map (meant m) (items_by c.args.numbers.now.items.items c.args.kernel.now) in
    let items = items_meant m c.args.lr.now.construction.rules (items_by c.args.numbers.now.items.items c.args.kernel.now) c.requires.kernel in
    record { limit = omega (arith, c.in_ok-propagate_kernel.ensures.limit, c.in_ok-restart.ensures.limit, c.len.ensures, c.args.numbers.now.symbols.ok); sharing = Sharing-start g.L.LookaheadBuild.begins g.L.LookaheadBuild.passes c.args.lr.now.construction.rules c.args.numbers.now kernel _ _ (λ i h. (items.each i h).tokens) (rw (c.clear.ensures, c.in_ok-restart.ensures.none) at c.in_ok-propagate_kernel.ensures.shares) }

pub propagate_kernel-requires-clause-limit : goal.propagate_kernel-requires-clause-limit
propagate_kernel-requires-clause-limit g c = omega (arith, c.in_ok-restart.ensures.limit, c.len.ensures, c.args.numbers.now.symbols.ok)

pub propagate_expansions-requires-clause-limit : goal.propagate_expansions-requires-clause-limit
propagate_expansions-requires-clause-limit g c = omega (arith, c.take.ensures.limit, c.loop-symbol.invariant.limit)

pub index-expansions-requires : goal.index-expansions-requires
index-expansions-requires g c =
    let before = rw c.in-Some.ensures.first at c.loop-symbol.invariant.sharing in
    let found = rw c.in-Some-2.is at c.in_ok-tokens.ensures.found in
    subst (λ (k : ℕ). c.in-Some.symbol < k) (sym c.args.numbers.now.expansions.ok.0) (number_known c.args.lr.now.construction.rules c.args.numbers.now c.requires.numbers _ (before.known (c.in-Some.symbol, g.L.Lookahead.meaning c.in-Some-2.tokens) found))

pub propagate_expansions-requires-clause-known : goal.propagate_expansions-requires-clause-known
propagate_expansions-requires-clause-known g c =
    let before = rw c.in-Some.ensures.first at c.loop-symbol.invariant.sharing in
    let found = rw c.in-Some-2.is at c.in_ok-tokens.ensures.found in
    let known = before.known (c.in-Some.symbol, g.L.Lookahead.meaning c.in-Some-2.tokens) found in
    rw (c.deref.ensures.value) (front_known c.args.lr.now.construction.rules c.args.numbers.now c.requires.numbers c.in-Some.symbol (g.L.Lookahead.meaning c.in-Some-2.tokens) known c.index-expansions.result.now c.index-expansions.ensures)

pub loop-symbol-smaller-in-Some-2 : goal.loop-symbol-smaller-in-Some-2
loop-symbol-smaller-in-Some-2 g c =
    let m = g.L.Lookahead.meaning in
    let before = rw c.in-Some.ensures.first at c.loop-symbol.invariant.sharing in
    let found = rw c.in-Some-2.is at c.in_ok-tokens.ensures.found in
    let known = before.known (c.in-Some.symbol, m c.in-Some-2.tokens) found in
    let expansions = (fronts_are c.args.lr.now.construction.rules c.args.numbers.now c.requires.numbers c.in-Some.symbol (m c.in-Some-2.tokens) known c.index-expansions.result.now c.index-expansions.ensures) in
    rw c.in-Some.ensures.first (Sharing-smaller g.L.LookaheadBuild.begins g.L.LookaheadBuild.passes c.args.lr.now.construction.rules c.args.numbers.now _ c.in-Some.symbol (m c.in-Some-2.tokens) _ _ _ _ _ before found expansions (rw c.deref.ensures.value at c.in_ok-propagate_expansions.ensures.shares))

pub loop-symbol-preserved-in-Some-2 : goal.loop-symbol-preserved-in-Some-2
loop-symbol-preserved-in-Some-2 g c =
    let m = g.L.Lookahead.meaning in
    let before = rw c.in-Some.ensures.first at c.loop-symbol.invariant.sharing in
    let found = rw c.in-Some-2.is at c.in_ok-tokens.ensures.found in
    let known = before.known (c.in-Some.symbol, m c.in-Some-2.tokens) found in
    let expansions = (fronts_are c.args.lr.now.construction.rules c.args.numbers.now c.requires.numbers c.in-Some.symbol (m c.in-Some-2.tokens) known c.index-expansions.result.now c.index-expansions.ensures) in
    record { limit = omega (arith, c.in_ok-propagate_expansions.ensures.limit, c.take.ensures.limit, c.loop-symbol.invariant.limit); sharing = Sharing-step g.L.LookaheadBuild.begins g.L.LookaheadBuild.passes c.args.lr.now.construction.rules c.args.numbers.now _ c.in-Some.symbol (m c.in-Some-2.tokens) _ _ _ _ _ before found expansions (rw c.deref.ensures.value at c.in_ok-propagate_expansions.ensures.shares) }

pub loop-symbol-smaller : goal.loop-symbol-smaller
loop-symbol-smaller g c =
    let before = rw c.in-Some.ensures.first at c.loop-symbol.invariant.sharing in
    let key = before.queued c.in-Some.symbol (contains_head c.in-Some.symbol c.take.new.self.numbers) in
    absurd ((rw c.in_default-2.is at c.in_ok-tokens.ensures.none) (subst (λ (ks : List ℕ). Contains ks c.in-Some.symbol) (readings_keys g.L.Lookahead.meaning c.loop-symbol.shared) key))

pub loop-symbol-preserved : goal.loop-symbol-preserved
loop-symbol-preserved g c =
    let before = rw c.in-Some.ensures.first at c.loop-symbol.invariant.sharing in
    let key = before.queued c.in-Some.symbol (contains_head c.in-Some.symbol c.take.new.self.numbers) in
    absurd ((rw c.in_default-2.is at c.in_ok-tokens.ensures.none) (subst (λ (ks : List ℕ). Contains ks c.in-Some.symbol) (readings_keys g.L.Lookahead.meaning c.loop-symbol.shared) key))

pub returns : goal.returns
returns g c =
    let none : c.loop-symbol.queue.numbers ≡ [] = first_of (search rules, grind (arith, common_steps), grind (arith, common_steps, nil_from_length c.loop-symbol.queue.numbers)) in
    rw none at c.loop-symbol.invariant.sharing
