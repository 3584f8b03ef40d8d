-- The leaves of the trees on a stack, of which the last is read first.
use Rattle.std.proofs.Common.{◌≡◌, ◌+◌, ◌<◌, suc, List, [], ◌∷◌, ◌++◌, reverse, refl, ap, sym, ◌∙◌, arith, append_assoc}
use Rattle.std.proofs.lemmas.List.{reverse-append, reverse-reverse}
use Rattle.lalrpop_ambiguity.specs.Words.{Tree, Leaf, Node, Trees, beside, no_trees, trees_of, nodes, leaves}
use Rattle.lalrpop_ambiguity.proofs.Types.{Production, Symbol}

pub leaves_append : (ts us : List Tree) → leaves (trees_of (ts ++ us)) ≡ leaves (trees_of ts) ++ leaves (trees_of us)
leaves_append [] us = refl
leaves_append (Leaf x ∷ ts) us = ap (λ l. x ∷ l) (leaves_append ts us)
leaves_append (Node p cs ∷ ts) us = ap (λ l. leaves cs ++ l) (leaves_append ts us) ∙ sym (append_assoc (leaves cs) (leaves (trees_of ts)) (leaves (trees_of us)))

pub nodes_append : (ts us : List Tree) → nodes (trees_of (ts ++ us)) ≡ nodes (trees_of ts) + nodes (trees_of us)
nodes_append [] us = omega arith
nodes_append (Leaf x ∷ ts) us = let h : nodes (trees_of (ts ++ us)) ≡ nodes (trees_of ts) + nodes (trees_of us) = nodes_append ts us in omega (arith, h)
nodes_append (Node p cs ∷ ts) us = let h : nodes (trees_of (ts ++ us)) ≡ nodes (trees_of ts) + nodes (trees_of us) = nodes_append ts us in omega (arith, h)

pub nodes_cons : (t : Tree) (ts : Trees) → nodes (beside t ts) ≡ nodes (beside t no_trees) + nodes ts
nodes_cons (Leaf x) ts = omega arith
nodes_cons (Node p children) ts = omega arith

pub nodes_reverse : (ts : List Tree) → nodes (trees_of (reverse ts)) ≡ nodes (trees_of ts)
nodes_reverse [] = refl
nodes_reverse (t ∷ ts) =
    let h : nodes (trees_of (reverse ts)) ≡ nodes (trees_of ts) = nodes_reverse ts in
    let e : nodes (trees_of (reverse (t ∷ ts))) ≡ nodes (trees_of (reverse ts)) + nodes (trees_of (t ∷ [])) = ap (λ l. nodes (trees_of l)) (reverse-append (t ∷ []) ts) ∙ nodes_append (reverse ts) (t ∷ []) in
    let s : nodes (trees_of (t ∷ ts)) ≡ nodes (trees_of (t ∷ [])) + nodes (trees_of ts) = nodes_append (t ∷ []) ts in
    omega (arith, h, e, s)

-- a tree moves from the end of one list to the end of the other, which is read backwards
pub over_to : (stack front : List Tree) (t : Tree) → (stack ++ t ∷ []) ++ reverse front ≡ stack ++ reverse (front ++ t ∷ [])
over_to stack front t = append_assoc stack (t ∷ []) (reverse front) ∙ ap (λ l. stack ++ l) (sym (reverse-append front (t ∷ [])))

-- the leaves if a leaf is taken from the stack
pub leaf_read : (front : List Tree) (x : Symbol) → leaves (trees_of (reverse (front ++ Leaf x ∷ []))) ≡ x ∷ leaves (trees_of (reverse front))
leaf_read front x = ap (λ l. leaves (trees_of l)) (reverse-append front (Leaf x ∷ []))

pub leaf_fewer : (front : List Tree) (x : Symbol) → nodes (trees_of front) < nodes (trees_of (front ++ Leaf x ∷ []))
leaf_fewer front x = let h : nodes (trees_of (front ++ Leaf x ∷ [])) ≡ nodes (trees_of front) + nodes (trees_of (Leaf x ∷ [])) = nodes_append front (Leaf x ∷ []) in omega (arith, h)

-- the leaves stay if a node is taken from the stack and its children are pushed
pub node_read : (front : List Tree) (p : Production) (children : List Tree) → leaves (trees_of (reverse (front ++ Node p (trees_of children) ∷ []))) ≡ leaves (trees_of (reverse (front ++ reverse children)))
node_read front p children =
    ap (λ l. leaves (trees_of l)) (reverse-append front (Node p (trees_of children) ∷ []))
    ∙ sym (leaves_append children (reverse front))
    ∙ ap (λ l. leaves (trees_of l)) (sym (reverse-append front (reverse children) ∙ ap (λ l. l ++ reverse front) (reverse-reverse children)))

pub node_fewer : (front : List Tree) (p : Production) (children : List Tree) → nodes (trees_of (front ++ reverse children)) < nodes (trees_of (front ++ Node p (trees_of children) ∷ []))
node_fewer front p children =
    let h : nodes (trees_of (front ++ Node p (trees_of children) ∷ [])) ≡ nodes (trees_of front) + suc (nodes (trees_of children) + 0) = nodes_append front (Node p (trees_of children) ∷ []) in
    let l : nodes (trees_of (front ++ reverse children)) ≡ nodes (trees_of front) + nodes (trees_of (reverse children)) = nodes_append front (reverse children) in
    let r : nodes (trees_of (reverse children)) ≡ nodes (trees_of children) = nodes_reverse children in
    omega (arith, h, l, r)
