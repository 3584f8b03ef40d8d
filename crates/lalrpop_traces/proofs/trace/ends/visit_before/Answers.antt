use Rattle.std.proofs.Common.{◌≡◌, ◌∙◌, ◌+◌, ◌++◌, ◌∷◌, [], ℕ, List, get_or, reverse, subst, sym, take}
use Rattle.std.proofs.lemmas.List.{take_all, take_more}
use Rattle.lalrpop_base.specs.Words.{Visits}
use Rattle.lalrpop_traces.specs.Words.{path_of}
use Rattle.lalrpop_traces.proofs.theory.traces.Ends.{AreNew, New-all, New-more, New-none}
use Rattle.lalrpop_traces.proofs.trace.ends.visit_before.Goals as goal

pub loop-number-init : goal.loop-number-init
loop-number-init c = New-none c.args.graph.now (path_of (reverse c.args.path.now)) c.args.walk.now

pub loop-number-preserved : goal.loop-number-preserved
loop-number-preserved c =
    let g = c.args.graph.now in
    let path = path_of (reverse c.args.path.now) in
    let ks : List ℕ = c.numbers_from-number-items.result.now in
    let i = c.loop-number.number-index in
    let k : ℕ = get_or ks i 0 in
    let more : take (i + 1) ks ≡ take i ks ++ k ∷ [] = take_more ks i 0 c.loop-number-test.true in
    subst (λ (js : List ℕ). Visits (AreNew g path js) c.args.walk.now c.visit_new.new.walk) (sym more) (New-more g path (take i ks) k c.args.walk.now c.loop-number.walk c.visit_new.new.walk c.loop-number.invariant c.in_ok-visit_new.ensures)

pub returns : goal.returns
returns c =
    let g = c.args.graph.now in
    let path = path_of (reverse c.args.path.now) in
    let ks : List ℕ = c.numbers_from-number-items.result.now in
    New-all g path c.args.edge c.args.walk.now c.loop-number.walk
    (subst (λ (js : List ℕ). Visits (AreNew g path js) c.args.walk.now c.loop-number.walk) (take_all c.loop-number.number-index ks c.loop-number-test.false ∙ c.numbers_from-number-items.ensures) c.loop-number.invariant)
