use Rattle.std.proofs.Common.{◌≡◌, ℕ, ◌+◌, ◌++◌, List, [], ◌∷◌, sym, ap, ap₂, ◌∙◌, map, take}
use Rattle.std.proofs.lemmas.List.{append_assoc, map-append, take_more}
use Rattle.lalrpop_grammar.proofs.Types.{Production, Symbol}
use Rattle.lalrpop_grammar.specs.Words.{Rest, right_side}
use Rattle.lalrpop_grammar.proofs.first.rests.add_right_sides.Goals as goal

-- one more right side is appended
one_more : (f : Production → Rest) (before now new : List Rest) (all : List Production) (i : ℕ) (p : Production) (r : Rest) → now ≡ before ++ map f (take i all) → take (i + 1) all ≡ take i all ++ p ∷ [] → r ≡ f p → new ≡ now ++ r ∷ [] → new ≡ before ++ map f (take (i + 1) all)
one_more f before now new all i p r so_far more side pushed =
    pushed
    ∙ ap₂ (λ (xs : List Rest) (x : Rest). xs ++ x ∷ []) so_far side
    ∙ append_assoc before (map f (take i all)) (f p ∷ [])
    ∙ ap (λ (xs : List Rest). before ++ xs) (sym (map-append f (take i all) (p ∷ [])) ∙ ap (map f) (sym more))

pub loop-production-preserved : goal.loop-production-preserved
loop-production-preserved c =
    let i = c.loop-production.production-index in
    let all = c.args.productions.now in
    let p = c.production-item.result in
    let more : take (i + 1) all ≡ take i all ++ p ∷ [] = take_more all i p c.loop-production-test.true ∙ ap (λ (q : Production). take i all ++ q ∷ []) (sym c.production-item.is) in
    one_more (right_side c.args.names.now) c.args.rests.now.items c.loop-production.rests.items c.push.new.self.items all i p (c.number.result, c.as_slice.result.now) c.loop-production.invariant more (ap₂ (λ (n : ℕ) (l : List Symbol). (n, l)) c.number.ensures.place c.as_slice.ensures) c.in_ok-push.ensures.items
