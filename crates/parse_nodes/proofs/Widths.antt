-- How many terminals the trees of a stack have, once its newest trees are taken.
use Rattle.std.proofs.Common.{◌≡◌, ℕ, ◌+◌, List, [], ◌∷◌, ◌++◌, length, length-append, take, drop, reverse, refl, ap, arith}
use Rattle.std.proofs.lemmas.List.{reverse-append, take-append-drop}
use Rattle.lalrpop_base.specs.Words.{Tree, leaves, trees_of}
use Rattle.lalrpop_grammar.specs.declared.repr.Production.{Production}
use Rattle.table_parser.specs.Events.{width}
use Rattle.table_parser.proofs.Widths.{width_reduced}

width_append : (ts us : List Tree) → width (ts ++ us) ≡ width ts + width us
width_append [] us = omega arith
width_append (t ∷ ts) us = let e = width_append ts us in omega (arith, e)

-- trees in turned order have as many terminals
pub width_reverse : (ts : List Tree) → width (reverse ts) ≡ width ts
width_reverse [] = refl
width_reverse (t ∷ ts) =
    let turned = ap width (reverse-append (t ∷ []) ts) in
    let parts = width_append (reverse ts) (t ∷ []) in
    let e = width_reverse ts in
    omega (arith, turned, parts, e)

-- the trees that are left and those that are taken have all terminals
pub width_taken : (n : ℕ) (ts : List Tree) → width (drop n ts) + width (reverse (take n ts)) ≡ width ts
width_taken n ts =
    let turned = width_reverse (take n ts) in
    let parts = width_append (take n ts) (drop n ts) in
    let whole = ap width (take-append-drop n ts) in
    omega (arith, turned, parts, whole)

-- so do the trees that are left and the children of the node of a reduction
pub width_children : (p : Production) (ts : List Tree) → width ts ≡ width (drop (length p.symbols) ts) + length (leaves (trees_of (reverse (take (length p.symbols) ts))))
width_children p ts =
    let one = length-append (leaves (trees_of (reverse (take (length p.symbols) ts)))) [] in
    let whole = width_reduced p ts in
    omega (arith, one, whole)
