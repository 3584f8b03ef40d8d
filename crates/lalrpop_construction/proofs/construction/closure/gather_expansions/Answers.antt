use Rattle.std.proofs.Common.{◌≡◌, ◌∙◌, ◌+◌, ◌++◌, ◌∷◌, [], ℕ, ap, sym, subst, take, map, List}
use Rattle.std.specs.Prelude.{get_or}
use Rattle.std.proofs.lemmas.List.{take_all, map-append}
use Rattle.lalrpop_base.specs.Words.{Bits, readings}
use Rattle.lalrpop_construction.specs.Words.{with_tokens}
use Rattle.lalrpop_collections.specs.lists.Entries.{GathersMore}
use Rattle.lalrpop_collections.proofs.theory.lists.Gathering.{More-none, More-one, More-then}
use Rattle.lalrpop_collections.proofs.theory.collections.JoinedEntries.{readings_differ}
use Rattle.lalrpop_construction.proofs.theory.closures.PropagatedItems.{read_within}
use Rattle.lalrpop_collections.proofs.theory.lists.Growth.{mapped_more}
use Rattle.lalrpop_construction.proofs.construction.closure.gather_expansions.Goals as goal

pub loop-number-init : goal.loop-number-init
loop-number-init g c = More-none _

pub loop-number-preserved : goal.loop-number-preserved
loop-number-preserved g c =
    let m = g.L.Lookahead.meaning in
    let xs : List ℕ = c.in-Some.others.now in
    let i = c.loop-number.number-index in
    let x = get_or xs i 0 in
    let part : ℕ → ℕ × Bits = λ k. (k, m c.args.tokens) in
    let more : map part (take (i + 1) xs) ≡ map part (take i xs) ++ part x ∷ [] = mapped_more part xs i x c.loop-number-test.true (read_within xs i c.loop-number-test.true) in
    let one = More-one x (m c.args.tokens) c.in_ok-join_copy.field-0 _ _ c.in_ok-join_copy.ensures.joined (readings_differ m _ c.in_ok-join_copy.ensures.differ) in
    subst (λ (ps : List (ℕ × Bits)). GathersMore ps (readings m c.args.table.now) (readings m c.join_copy.new.self)) (sym more) (More-then (map part (take i xs)) (part x ∷ []) _ _ _ c.loop-number.invariant one)

pub returns : goal.returns
returns g c =
    let m = g.L.Lookahead.meaning in
    let others : List ℕ = c.in-Some.others.now in
    let last : ℕ = c.in-Some.last.now in
    let part : ℕ → ℕ × Bits = λ k. (k, m c.args.tokens) in
    let all = subst (λ (xs : List ℕ). GathersMore (with_tokens (m c.args.tokens) xs) (readings m c.args.table.now) (readings m c.loop-number.table)) (take_all c.loop-number.number-index others c.loop-number-test.false) c.loop-number.invariant in
    let one = More-one last (m c.args.tokens) c.in_ok-join.field-0 _ _ c.in_ok-join.ensures.joined (readings_differ m _ c.in_ok-join.ensures.differ) in
    let whole : with_tokens (m c.args.tokens) c.args.expansions.now ≡ with_tokens (m c.args.tokens) others ++ part last ∷ [] = ap (map part) c.in-Some.ensures.cases.0 ∙ map-append part others (last ∷ []) in
    subst (λ (ps : List (ℕ × Bits)). GathersMore ps (readings m c.args.table.now) (readings m c.join.new.self)) (sym whole) (More-then (map part others) (part last ∷ []) _ _ _ all one)
