use Rattle.std.proofs.Common.{◌≡◌, ◌+◌, ◌++◌, ◌∷◌, [], ℕ, sym, subst, take, map, List}
use Rattle.std.proofs.lemmas.List.{take_all}
use Rattle.lalrpop_base.specs.Words.{Bits, readings}
use Rattle.lalrpop_construction.specs.Words.{parts_in}
use Rattle.lalrpop_collections.specs.lists.Entries.{GathersMore}
use Rattle.lalrpop_numbers.specs.declared.numbers.numbered.Numbered.{Numbered}
use Rattle.lalrpop_collections.proofs.theory.lists.Gathering.{More-none, More-one, More-then}
use Rattle.lalrpop_collections.proofs.theory.collections.JoinedEntries.{readings_differ}
use Rattle.lalrpop_collections.proofs.theory.lists.Growth.{mapped_more}
use Rattle.lalrpop_construction.proofs.construction.closure.gather_kernel.Goals as goal

pub loop-item-init : goal.loop-item-init
loop-item-init g c = More-none _

pub loop-item-preserved : goal.loop-item-preserved
loop-item-preserved g c =
    let m = g.L.Lookahead.meaning in
    let xs : List (Numbered g.row.L.Denot) = c.args.kernel.now in
    let i = c.loop-item.item-index in
    let part : Numbered g.row.L.Denot → ℕ × Bits = λ e. (e.number, m e.lookahead) in
    let more : map part (take (i + 1) xs) ≡ map part (take i xs) ++ part c.item-item.result ∷ [] = mapped_more part xs i c.item-item.result c.loop-item-test.true c.item-item.is in
    let one = More-one c.item-item.result.number (m c.item-item.result.lookahead) c.in_ok-join_copy.field-0 _ _ c.in_ok-join_copy.ensures.joined (readings_differ m _ c.in_ok-join_copy.ensures.differ) in
    subst (λ (ps : List (ℕ × Bits)). GathersMore ps (readings m c.args.table.now) (readings m c.join_copy.new.self)) (sym more) (More-then (map part (take i xs)) (part c.item-item.result ∷ []) _ _ _ c.loop-item.invariant one)

pub returns : goal.returns
returns g c =
    let m = g.L.Lookahead.meaning in
    subst (λ (xs : List (Numbered g.row.L.Denot)). GathersMore (parts_in m xs) (readings m c.args.table.now) (readings m c.loop-item.table)) (take_all c.loop-item.item-index c.args.kernel.now c.loop-item-test.false) c.loop-item.invariant
