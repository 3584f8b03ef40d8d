use Rattle.std.proofs.Common.{refl, arith, ◌∙◌, ◌%◌, [], sym, subst, List, ℕ}
use Rattle.std.specs.Prelude.{get_or}
use Rattle.std.proofs.lemmas.List.{take_all}
use Rattle.lalrpop_base.specs.Words.{items_by}
use Rattle.lalrpop_collections.proofs.theory.lists.Members.{contains_map, Contains-none}
use Rattle.lalrpop_construction.proofs.theory.closures.PropagatedItems.{read_within}
use Rattle.canonical_by_number.specs.Closures.{PropagatesNumbers, kernel_in, unpacked}
use Rattle.canonical_by_number.proofs.TokenSets.{kept_within}
use Rattle.canonical_by_number.proofs.Closures.{Numbers-nothing, firsts_kept}
use Rattle.canonical_by_number.proofs.Propagating.{Kernel-more}
use Rattle.canonical_by_number.proofs.closure.propagate_kernel.Goals as goal

pub loop-packed-init : goal.loop-packed-init
loop-packed-init c = record { limit = refl; shares = Numbers-nothing _ _ [] _ _ _ c.requires.shared (λ i h. absurd (Contains-none i h)) }

pub propagate-requires-clause-known : goal.propagate-requires-clause-known
propagate-requires-clause-known c =
    let i = c.loop-packed.packed-index in
    let x = get_or c.args.kernel.now i 0 in
    c.requires.known (unpacked c.args.sets.now x) (contains_map (unpacked c.args.sets.now) c.args.kernel.now x (i, c.loop-packed-test.true, sym (read_within c.args.kernel.now i c.loop-packed-test.true)))

pub propagate-requires-clause-tokens : goal.propagate-requires-clause-tokens
propagate-requires-clause-tokens c =
    let i = c.loop-packed.packed-index in
    let x = get_or c.args.kernel.now i 0 in
    kept_within c.args.sets.now c.loop-packed.sets c.loop-packed.invariant.shares.kept (x % 4294967296) (c.requires.packed x (i, c.loop-packed-test.true, sym (read_within c.args.kernel.now i c.loop-packed-test.true)))

pub propagate-requires-clause-firsts : goal.propagate-requires-clause-firsts
propagate-requires-clause-firsts c = firsts_kept c.args.sets.now c.loop-packed.sets c.loop-packed.invariant.shares.kept _ _ c.requires.firsts

pub propagate-requires-clause-shared : goal.propagate-requires-clause-shared
propagate-requires-clause-shared c = c.loop-packed.invariant.shares.known

pub propagate-requires-clause-limit : goal.propagate-requires-clause-limit
propagate-requires-clause-limit c = omega (arith, c.requires.limit, c.loop-packed.invariant.limit)

pub loop-packed-preserved : goal.loop-packed-preserved
loop-packed-preserved c =
    let i = c.loop-packed.packed-index in
    let x = get_or c.args.kernel.now i 0 in
    let at = read_within c.args.kernel.now i c.loop-packed-test.true in
    record {
      limit = c.in_ok-propagate.ensures.limit ∙ c.loop-packed.invariant.limit;
      shares = Kernel-more _ _ c.args.sets.now c.loop-packed.sets c.propagate.new.sets c.args.shared.now c.loop-packed.shared c.propagate.new.shared c.args.queue.now.numbers c.loop-packed.queue.numbers c.propagate.new.queue.numbers
          c.args.kernel.now i x c.loop-packed-test.true at (c.requires.packed x (i, c.loop-packed-test.true, sym at)) c.loop-packed.invariant.shares c.in_ok-propagate.ensures.shares;
    }

pub returns-clause-shares : goal.returns-clause-shares
returns-clause-shares c =
    subst (λ (xs : List ℕ). PropagatesNumbers c.args.lr.now.construction.rules c.args.numbers.now (items_by c.args.numbers.now.items.items (kernel_in c.args.sets.now xs)) c.args.sets.now c.loop-packed.sets c.args.shared.now c.loop-packed.shared c.args.queue.now.numbers c.loop-packed.queue.numbers)
    (take_all c.loop-packed.packed-index c.args.kernel.now c.loop-packed-test.false) c.loop-packed.invariant.shares
