use Rattle.std.proofs.Common.{◌≡◌, ◌<◌, ℕ, List, [], refl, rules, arith, sym, subst}
use Rattle.std.specs.Prelude.{Contains}
use Rattle.std.proofs.lemmas.Grind.{common_steps}
use Rattle.std.proofs.lemmas.List.{nil_from_length}
use Rattle.lalrpop_base.specs.Words.{Begins, Bits, Dotted, items_by}
use Rattle.lalrpop_collections.proofs.theory.collections.JoinedEntries.{readings_keys}
use Rattle.lalrpop_collections.proofs.theory.lists.Members.{contains_head}
use Rattle.lalrpop_construction.proofs.theory.closures.Propagation.{Sharing-start, Sharing-step, Sharing-smaller}
use Rattle.lalrpop_construction.proofs.theory.closures.PropagatedItems.{front_known, fronts_are, number_known}
use Rattle.canonical_by_number.specs.TokenSets.{set_at}
use Rattle.canonical_by_number.specs.Closures.{LetsPass, kernel_in}
use Rattle.canonical_by_number.proofs.TokenSets.{keeps_then}
use Rattle.canonical_by_number.proofs.Closures.{firsts_kept, read_there}
use Rattle.canonical_by_number.proofs.closure.propagate_all.Goals as goal

pub loop-symbol-init : goal.loop-symbol-init
loop-symbol-init c =
    let kernel : List (Dotted Bits) = items_by c.args.numbers.now.items.items (kernel_in c.args.sets.now c.args.kernel.now) in
    let gave = c.in_ok-propagate_kernel.ensures.shares in
    record {
      limit = omega (arith, c.in_ok-propagate_kernel.ensures.limit, c.in_ok-restart.ensures.limit, c.len.ensures, c.args.numbers.now.symbols.ok);
      kept = gave.kept;
      known = gave.known;
      sharing = Sharing-start Begins LetsPass c.args.lr.now.construction.rules c.args.numbers.now kernel _ _ (λ i h. (c.requires.kernel.each i h).tokens) (rw (c.clear.ensures, c.in_ok-restart.ensures.none) at gave.shares);
    }

pub propagate_kernel-requires-clause-limit : goal.propagate_kernel-requires-clause-limit
propagate_kernel-requires-clause-limit c = omega (arith, c.in_ok-restart.ensures.limit, c.len.ensures, c.args.numbers.now.symbols.ok)

pub propagate_expansions-requires-clause-limit : goal.propagate_expansions-requires-clause-limit
propagate_expansions-requires-clause-limit c = omega (arith, c.take.ensures.limit, c.loop-symbol.invariant.limit)

pub returns-clause-shares : goal.returns-clause-shares
returns-clause-shares c =
    let none : c.loop-symbol.queue.numbers ≡ [] = first_of (search rules, grind (arith, common_steps), grind (arith, common_steps, nil_from_length c.loop-symbol.queue.numbers)) in
    rw none at c.loop-symbol.invariant.sharing

pub propagate_expansions-requires-clause-firsts : goal.propagate_expansions-requires-clause-firsts
propagate_expansions-requires-clause-firsts c = firsts_kept c.args.sets.now c.loop-symbol.sets c.loop-symbol.invariant.kept _ _ c.requires.firsts

pub propagate_expansions-requires-clause-tokens : goal.propagate_expansions-requires-clause-tokens
propagate_expansions-requires-clause-tokens c = c.loop-symbol.invariant.known (c.in-Some.symbol, c.in-Some-get.tokens) c.in-Some-get.ensures.found

pub propagate_expansions-requires-clause-shared : goal.propagate_expansions-requires-clause-shared
propagate_expansions-requires-clause-shared c = c.loop-symbol.invariant.known

pub index-expansions-requires : goal.index-expansions-requires
index-expansions-requires c =
    let m = set_at c.loop-symbol.sets in
    let before = rw c.in-Some.ensures.first at c.loop-symbol.invariant.sharing in
    let found = read_there m c.loop-symbol.shared c.in-Some.symbol c.in-Some-get.tokens c.in-Some-get.ensures.found in
    subst (λ (k : ℕ). c.in-Some.symbol < k) (sym c.args.numbers.now.expansions.ok.0) (number_known c.args.lr.now.construction.rules c.args.numbers.now c.requires.numbers _ (before.known (c.in-Some.symbol, m c.in-Some-get.tokens) found))

pub propagate_expansions-requires-clause-known : goal.propagate_expansions-requires-clause-known
propagate_expansions-requires-clause-known c =
    let m = set_at c.loop-symbol.sets in
    let before = rw c.in-Some.ensures.first at c.loop-symbol.invariant.sharing in
    let found = read_there m c.loop-symbol.shared c.in-Some.symbol c.in-Some-get.tokens c.in-Some-get.ensures.found in
    let known = before.known (c.in-Some.symbol, m c.in-Some-get.tokens) found in
    rw (c.deref.ensures.value) (front_known c.args.lr.now.construction.rules c.args.numbers.now c.requires.numbers c.in-Some.symbol (m c.in-Some-get.tokens) known c.index-expansions.result.now c.index-expansions.ensures)

pub loop-symbol-smaller-in-Continue-branch-3 : goal.loop-symbol-smaller-in-Continue-branch-3
loop-symbol-smaller-in-Continue-branch-3 c =
    let m = set_at c.loop-symbol.sets in
    let before = rw c.in-Some.ensures.first at c.loop-symbol.invariant.sharing in
    let found = read_there m c.loop-symbol.shared c.in-Some.symbol c.in-Some-get.tokens c.in-Some-get.ensures.found in
    let known = before.known (c.in-Some.symbol, m c.in-Some-get.tokens) found in
    let expansions = (fronts_are c.args.lr.now.construction.rules c.args.numbers.now c.requires.numbers c.in-Some.symbol (m c.in-Some-get.tokens) known c.index-expansions.result.now c.index-expansions.ensures) in
    rw c.in-Some.ensures.first (Sharing-smaller Begins LetsPass c.args.lr.now.construction.rules c.args.numbers.now _ c.in-Some.symbol (m c.in-Some-get.tokens) _ _ _ _ _ before found expansions (rw c.deref.ensures.value at c.in_ok-propagate_expansions.ensures.shares.shares))

pub loop-symbol-preserved-in-Continue-branch-3 : goal.loop-symbol-preserved-in-Continue-branch-3
loop-symbol-preserved-in-Continue-branch-3 c =
    let m = set_at c.loop-symbol.sets in
    let before = rw c.in-Some.ensures.first at c.loop-symbol.invariant.sharing in
    let found = read_there m c.loop-symbol.shared c.in-Some.symbol c.in-Some-get.tokens c.in-Some-get.ensures.found in
    let known = before.known (c.in-Some.symbol, m c.in-Some-get.tokens) found in
    let expansions = (fronts_are c.args.lr.now.construction.rules c.args.numbers.now c.requires.numbers c.in-Some.symbol (m c.in-Some-get.tokens) known c.index-expansions.result.now c.index-expansions.ensures) in
    let gave = c.in_ok-propagate_expansions.ensures.shares in
    record {
      limit = omega (arith, c.in_ok-propagate_expansions.ensures.limit, c.take.ensures.limit, c.loop-symbol.invariant.limit);
      kept = keeps_then c.args.sets.now c.loop-symbol.sets c.propagate_expansions.new.sets c.loop-symbol.invariant.kept gave.kept;
      known = gave.known;
      sharing = Sharing-step Begins LetsPass c.args.lr.now.construction.rules c.args.numbers.now _ c.in-Some.symbol (m c.in-Some-get.tokens) _ _ _ _ _ before found expansions (rw c.deref.ensures.value at gave.shares);
    }

pub loop-symbol-smaller : goal.loop-symbol-smaller
loop-symbol-smaller c =
    let before = rw c.in-Some.ensures.first at c.loop-symbol.invariant.sharing in
    let key = before.queued c.in-Some.symbol (contains_head c.in-Some.symbol c.take.new.self.numbers) in
    absurd (c.in_default-get.ensures.none refl (subst (λ (ks : List ℕ). Contains ks c.in-Some.symbol) (readings_keys (set_at c.loop-symbol.sets) c.loop-symbol.shared) key))

pub loop-symbol-preserved : goal.loop-symbol-preserved
loop-symbol-preserved c =
    let before = rw c.in-Some.ensures.first at c.loop-symbol.invariant.sharing in
    let key = before.queued c.in-Some.symbol (contains_head c.in-Some.symbol c.take.new.self.numbers) in
    absurd (c.in_default-get.ensures.none refl (subst (λ (ks : List ℕ). Contains ks c.in-Some.symbol) (readings_keys (set_at c.loop-symbol.sets) c.loop-symbol.shared) key))
