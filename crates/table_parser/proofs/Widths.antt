-- How many terminals the trees of a stack have.
use Rattle.std.proofs.Common.{◌≡◌, ℕ, zero, suc, ◌+◌, ◌≤◌, List, [], ◌∷◌, ◌++◌, length, length-append, take, drop, reverse, refl, sym, ap, ◌∙◌, arith}
use Rattle.std.proofs.lemmas.List.{take-append-drop}
use mathlib.Core.List.{reverse_aux}
use Rattle.lalrpop_base.specs.Words.{Leaf, Node, Tree, leaves, reduced, trees_of}
use Rattle.lalrpop_grammar.specs.declared.repr.Production.{Production}
use Rattle.table_parser.specs.Events.{starts, width}

-- trees in a row have as many terminals as on a stack
leaves_width : (ts : List Tree) → length (leaves (trees_of ts)) ≡ width ts
leaves_width [] = refl
leaves_width (Leaf t ∷ ts) = let e = leaves_width ts in omega (arith, e)
leaves_width (Node a children ∷ ts) =
    let whole = length-append (leaves children) (leaves (trees_of ts)) in
    let one = length-append (leaves children) [] in
    let e = leaves_width ts in
    omega (arith, whole, one, e)

width_append : (ts us : List Tree) → width (ts ++ us) ≡ width ts + width us
width_append [] us = omega arith
width_append (t ∷ ts) us = let e = width_append ts us in omega (arith, e)

width_onto : (ts us : List Tree) → width (reverse_aux ts us) ≡ width ts + width us
width_onto [] us = omega arith
width_onto (t ∷ ts) us = let e = width_onto ts (t ∷ us) in omega (arith, e)

-- the trees that are taken off have the terminals that those below lack
width_split : (n : ℕ) (ts : List Tree) → width (take n ts) + width (drop n ts) ≡ width ts
width_split n ts = sym (width_append (take n ts) (drop n ts)) ∙ ap width (take-append-drop n ts)

-- a reduction keeps the terminals
pub width_reduced : (p : Production) (ts : List Tree) → width (reduced p ts) ≡ width ts
width_reduced p ts =
    let n = length p.symbols in
    let children = reverse (take n ts) in
    let one = length-append (leaves (trees_of children)) [] in
    let counted = leaves_width children in
    let turned = width_onto (take n ts) [] in
    let parts = width_split n ts in
    omega (arith, one, counted, turned, parts)

pub length_starts : (ts : List Tree) → length (starts ts) ≡ length ts
length_starts [] = refl
length_starts (t ∷ ts) = ap suc (length_starts ts)

-- the position at which the newest of n trees begins, and those of the trees below them
pub starts_below_of : (n : ℕ) (ts : List Tree) → n ≤ length ts → drop n (width ts ∷ starts ts) ≡ width (drop n ts) ∷ starts (drop n ts)
starts_below_of zero ts l = refl
starts_below_of (suc n) [] l = absurd (omega (arith, l))
starts_below_of (suc n) (t ∷ ts) l = starts_below_of n ts (omega (arith, l))

-- nothing is left if more trees are taken than there are
pub drop_past : {A : Type 0} (n : ℕ) (xs : List A) → length xs ≤ n → drop n xs ≡ []
drop_past zero [] l = refl
drop_past zero (x ∷ xs) l = absurd (omega (arith, l))
drop_past (suc n) [] l = refl
drop_past (suc n) (x ∷ xs) l = drop_past n xs (omega (arith, l))
