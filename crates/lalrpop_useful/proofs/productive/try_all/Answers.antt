use Rattle.std.proofs.Common.{◌≡◌, ◌∙◌, ◌+◌, ◌++◌, ◌∷◌, [], subst, sym, ap, map, take, List}
use Rattle.std.specs.Borrow.{Bor}
use Rattle.std.proofs.lemmas.List.{map-append, take_more, take_all}
use Rattle.lalrpop_useful.proofs.Types.{Production}
use Rattle.lalrpop_useful.specs.Words.{AreTried}
use Rattle.lalrpop_useful.proofs.theory.useful.Productive.{Tried-start, Tried-more}
use Rattle.lalrpop_useful.proofs.productive.try_all.Goals as goal

abbrev seen : List (Bor Production) → List Production
seen ps = map (λ (p : Bor Production). p.now) ps

pub loop-production-init : goal.loop-production-init
loop-production-init c = Tried-start c.args.walk.now

pub loop-production-preserved : goal.loop-production-preserved
loop-production-preserved c =
    let ps : List (Bor Production) = c.args.all.now in
    let i = c.loop-production.production-index in
    let p : Bor Production = c.production-item.result in
    let more : take (i + 1) ps ≡ take i ps ++ p ∷ [] = take_more ps i p c.loop-production-test.true ∙ ap (λ (q : Bor Production). take i ps ++ q ∷ []) (sym c.production-item.is) in
    let pushed : seen (take (i + 1) ps) ≡ seen (take i ps) ++ p.now ∷ [] = ap seen more ∙ map-append (λ (q : Bor Production). q.now) (take i ps) (p ∷ []) in
    subst (λ (qs : List Production). AreTried qs c.args.walk.now c.try_one.new.walk) (sym pushed)
    (Tried-more (seen (take i ps)) p.now _ _ _ c.loop-production.invariant c.in_ok-try_one.ensures)

pub returns : goal.returns
returns c = subst (λ (qs : List (Bor Production)). AreTried (seen qs) c.args.walk.now c.loop-production.walk) (take_all c.loop-production.production-index c.args.all.now c.loop-production-test.false) c.loop-production.invariant
