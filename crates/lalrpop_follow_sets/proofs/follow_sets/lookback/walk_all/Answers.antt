use Rattle.std.proofs.Common.{◌≡◌, ◌∙◌, List, ℕ, ap, arith, get_or, length, subst, sym, take}
use Rattle.std.proofs.lemmas.List.{take_more}
use Rattle.lalrpop_collections.proofs.theory.lists.Lists.{take_all}
use Rattle.lalrpop_follow_sets.proofs.theory.follow_sets.ExpansionWalks.{WalksOver, walks_more}
use Rattle.lalrpop_construction.proofs.theory.closures.PropagatedItems.{read_within}
use Rattle.lalrpop_follow_sets.proofs.follow_sets.lookback.walk_all.Goals as goal

pub walk_from-requires-clause-expansion : goal.walk_from-requires-clause-expansion
walk_from-requires-clause-expansion c =
    let expansions = c.args.expansions.now in
    let k = c.loop-expansion.expansion-index in
    c.requires.expansions (get_or expansions k 0) (k, c.loop-expansion-test.true, sym (read_within expansions k c.loop-expansion-test.true))

pub loop-expansion-preserved : goal.loop-expansion-preserved
loop-expansion-preserved c =
    let pass = c.args.pass.now in
    let expansions = c.args.expansions.now in
    let k = c.loop-expansion.expansion-index in
    let expansion = get_or expansions k 0 in
    let q = c.requires.expansions expansion (k, c.loop-expansion-test.true, sym (read_within expansions k c.loop-expansion-test.true)) in
    subst (λ (done : List ℕ). WalksOver pass c.args.node c.args.from done c.args.ends.now.items c.walk_from.new.ends.items c.args.lookback.now.items c.walk_from.new.lookback.items) (sym (take_more expansions k 0 c.loop-expansion-test.true))
    (walks_more pass c.args.node c.args.from (take k expansions) expansion q.0 c.args.ends.now.items c.loop-expansion.ends.items c.walk_from.new.ends.items c.args.lookback.now.items c.loop-expansion.lookback.items c.walk_from.new.lookback.items q.1 c.loop-expansion.invariant
    (c.in_ok-walk_from.ensures.through q.0 q.1) (c.in_ok-walk_from.ensures.noted q.0 q.1))

-- the first k members of a list of length k are the whole list
taken_whole : (xs : List ℕ) (k : ℕ) → k ≡ length xs → take k xs ≡ xs
taken_whole xs k e = ap (λ n. take n xs) e ∙ take_all xs

pub returns-clause-through : goal.returns-clause-through
returns-clause-through c =
    let expansions = c.args.expansions.now in
    let k = c.loop-expansion.expansion-index in
    let end : k ≡ length expansions = let l = c.loop-expansion-test.false in let m = c.loop-expansion.auto.expansion-index-end in omega arith in
    (subst (λ (done : List ℕ). WalksOver c.args.pass.now c.args.node c.args.from done c.args.ends.now.items c.loop-expansion.ends.items c.args.lookback.now.items c.loop-expansion.lookback.items) (taken_whole expansions k end) c.loop-expansion.invariant).through

pub returns-clause-noted : goal.returns-clause-noted
returns-clause-noted c =
    let expansions = c.args.expansions.now in
    let k = c.loop-expansion.expansion-index in
    let end : k ≡ length expansions = let l = c.loop-expansion-test.false in let m = c.loop-expansion.auto.expansion-index-end in omega arith in
    (subst (λ (done : List ℕ). WalksOver c.args.pass.now c.args.node c.args.from done c.args.ends.now.items c.loop-expansion.ends.items c.args.lookback.now.items c.loop-expansion.lookback.items) (taken_whole expansions k end) c.loop-expansion.invariant).noted
