use Rattle.std.proofs.Common.{◌≡◌, ◌∙◌, ◌++◌, ◌∷◌, [], ap, sym, take, ◌+◌, List}
use Rattle.std.proofs.lemmas.List.{take_more}
use Rattle.lalrpop_base.specs.Words.{Dotted, reductions_of}
use Rattle.lalrpop_construction.proofs.theory.construction.Moves.{reductions_of-append}
use Rattle.lalrpop_construction.proofs.construction.reductions.reductions.Goals as goal

pub loop-item-preserved : goal.loop-item-preserved
loop-item-preserved g c =
    let xs : List (Dotted g.row.L.Denot) = c.args.items.now in
    let i = c.loop-item.item-index in
    let more : take (i + 1) xs ≡ take i xs ++ c.item-item.result ∷ [] = take_more xs i c.item-item.result c.loop-item-test.true ∙ ap (λ (x : Dotted g.row.L.Denot). take i xs ++ x ∷ []) (sym c.item-item.is) in
    c.in_ok-push_finished.ensures ∙ ap (λ rs. rs ++ reductions_of (c.item-item.result ∷ [])) c.loop-item.invariant ∙ sym (reductions_of-append (take i xs) (c.item-item.result ∷ [])) ∙ ap reductions_of (sym more)
