use Rattle.std.proofs.Common.{refl, arith, ◌∙◌, [], sym, subst, List, ℕ}
use Rattle.std.specs.Prelude.{get_or}
use Rattle.std.proofs.lemmas.List.{take_all}
use Rattle.lalrpop_base.specs.Words.{Bits, items_by}
use Rattle.lalrpop_collections.proofs.theory.lists.Members.{contains_map, Contains-none}
use Rattle.lalrpop_construction.proofs.theory.closures.PropagatedItems.{read_within}
use Rattle.lalrpop_construction.specs.Words.{expansions_in}
use Rattle.lalrpop_numbers.specs.declared.numbers.numbered.Numbered.{Numbered}
use Rattle.canonical_by_number.specs.TokenSets.{set_at}
use Rattle.canonical_by_number.specs.Closures.{PropagatesNumbers}
use Rattle.canonical_by_number.proofs.TokenSets.{kept_within}
use Rattle.canonical_by_number.proofs.Closures.{Numbers-nothing, firsts_kept}
use Rattle.canonical_by_number.proofs.Propagating.{Expansions-more}
use Rattle.canonical_by_number.proofs.closure.propagate_expansions.Goals as goal

pub loop-number-init : goal.loop-number-init
loop-number-init c = record { limit = refl; shares = Numbers-nothing _ _ [] _ _ _ c.requires.shared (λ i h. absurd (Contains-none i h)) }

pub propagate-requires-clause-known : goal.propagate-requires-clause-known
propagate-requires-clause-known c =
    let with_set : ℕ → Numbered Bits = λ k. record { number = k; lookahead = set_at c.args.sets.now c.args.tokens } in
    let i = c.loop-number.number-index in
    let x = get_or c.args.expansions.now i 0 in
    c.requires.known (with_set x) (contains_map with_set c.args.expansions.now x (i, c.loop-number-test.true, sym (read_within c.args.expansions.now i c.loop-number-test.true)))

pub propagate-requires-clause-tokens : goal.propagate-requires-clause-tokens
propagate-requires-clause-tokens c = kept_within c.args.sets.now c.loop-number.sets c.loop-number.invariant.shares.kept c.args.tokens c.requires.tokens

pub propagate-requires-clause-firsts : goal.propagate-requires-clause-firsts
propagate-requires-clause-firsts c = firsts_kept c.args.sets.now c.loop-number.sets c.loop-number.invariant.shares.kept _ _ c.requires.firsts

pub propagate-requires-clause-shared : goal.propagate-requires-clause-shared
propagate-requires-clause-shared c = c.loop-number.invariant.shares.known

pub propagate-requires-clause-limit : goal.propagate-requires-clause-limit
propagate-requires-clause-limit c = omega (arith, c.requires.limit, c.loop-number.invariant.limit)

pub loop-number-preserved : goal.loop-number-preserved
loop-number-preserved c =
    let i = c.loop-number.number-index in
    let x = get_or c.args.expansions.now i 0 in
    let at = read_within c.args.expansions.now i c.loop-number-test.true in
    record {
      limit = c.in_ok-propagate.ensures.limit ∙ c.loop-number.invariant.limit;
      shares = Expansions-more _ _ c.args.sets.now c.loop-number.sets c.propagate.new.sets c.args.shared.now c.loop-number.shared c.propagate.new.shared c.args.queue.now.numbers c.loop-number.queue.numbers c.propagate.new.queue.numbers
          c.args.tokens c.args.expansions.now i x c.loop-number-test.true at c.requires.tokens c.loop-number.invariant.shares c.in_ok-propagate.ensures.shares;
    }

pub returns-clause-shares : goal.returns-clause-shares
returns-clause-shares c =
    subst (λ (xs : List ℕ). PropagatesNumbers c.args.lr.now.construction.rules c.args.numbers.now (items_by c.args.numbers.now.items.items (expansions_in (set_at c.args.sets.now c.args.tokens) xs)) c.args.sets.now c.loop-number.sets c.args.shared.now c.loop-number.shared c.args.queue.now.numbers c.loop-number.queue.numbers)
    (take_all c.loop-number.number-index c.args.expansions.now c.loop-number-test.false) c.loop-number.invariant.shares
