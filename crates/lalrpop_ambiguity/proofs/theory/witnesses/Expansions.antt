-- Trees whose leaves are expanded: each leaf is replaced by a tree with the leaf's symbol at its
-- root. If each of these trees has a leaf, different trees give different ones.
use Rattle.std.proofs.Common.{◌≡◌, ◌∙◌, suc, ◌+◌, ◌≤◌, List, [], ◌∷◌, ◌++◌, refl, sym, ap, ap₂, subst, append-nil, arith}
use Rattle.std.specs.Prelude.{Contains}
use mathlib.Core.List.{cons≢nil, head-eq_of_cons-eq, nil≢cons, tail-eq_of_cons-eq}
use Rattle.lalrpop_ambiguity.proofs.Types.{Production, Symbol}
use Rattle.lalrpop_grammar.specs.declared.repr.Symbol.TheVariants.{Nonterminal}
use Rattle.lalrpop_ambiguity.specs.Words.{AreOfGrammar, Leaf, Node, Tree, Trees, beside, leaves, no_trees, nodes, root, roots}
use Rattle.lalrpop_ambiguity.proofs.theory.derivations.Leaves.{nodes_cons}
use Rattle.lalrpop_ambiguity.proofs.theory.derivations.Views.{leaves_cons}
use Rattle.lalrpop_ambiguity.proofs.theory.witnesses.Rows.{HaveLeaves, along, along_assoc, have_parts, leaves_along, nodes_along, of_parts, parts, same_first, same_others}

-- trees expand others: they have trees at the places of the leaves
abbrev pub Expands : Trees → Trees → Type 0
Expands no_trees no_trees = Unit {0}
Expands no_trees (beside t ts) = ⊥
Expands (beside (Leaf x) ds) no_trees = ⊥
Expands (beside (Node p cs) ds) no_trees = ⊥
Expands (beside (Leaf x) ds) (beside t ts) = (root t ≡ x) × Expands ds ts
Expands (beside (Node p cs) ds) (beside (Leaf y) ts) = ⊥
Expands (beside (Node p cs) ds) (beside (Node q ks) ts) = (p ≡ q) × Expands cs ks × Expands ds ts

-- the trees at the places of the leaves, from the left
abbrev pub pieces : Trees → Trees → Trees
pieces no_trees ts = no_trees
pieces (beside (Leaf x) ds) no_trees = no_trees
pieces (beside (Node p cs) ds) no_trees = no_trees
pieces (beside (Leaf x) ds) (beside t ts) = beside t (pieces ds ts)
pieces (beside (Node p cs) ds) (beside (Leaf y) ts) = no_trees
pieces (beside (Node p cs) ds) (beside (Node q ks) ts) = along (pieces cs ks) (pieces ds ts)

-- ---- trees can be expanded
pub record Expansion (ds es : Trees) : Type 0 where
  pub trees : Trees
  pub expands : Expands ds trees
  pub made : pieces ds trees ≡ es

pub expand : (ds es : Trees) → roots es ≡ leaves ds → Expansion ds es
expand no_trees no_trees e = record { trees = no_trees; expands = tt; made = refl }
expand no_trees (beside t es) e = absurd (cons≢nil e)
expand (beside (Leaf x) ds) no_trees e = absurd (nil≢cons e)
expand (beside (Leaf x) ds) (beside t es) e =
    let r = expand ds es (tail-eq_of_cons-eq e) in
    record { trees = beside t r.trees; expands = (head-eq_of_cons-eq e, r.expands); made = ap (beside t) r.made }
expand (beside (Node p cs) ds) es e =
    let s = parts es (leaves cs) (leaves ds) e in
    let q = expand cs s.first s.left in
    let r = expand ds s.second s.right in
    record { trees = beside (Node p q.trees) r.trees; expands = (refl, q.expands, r.expands); made = ap₂ along q.made r.made ∙ sym s.joined }

-- ---- the roots and the leaves of expanded trees
pub roots_expanded : (ds ts : Trees) → Expands ds ts → roots ts ≡ roots ds
roots_expanded no_trees no_trees h = refl
roots_expanded no_trees (beside t ts) h = absurd h
roots_expanded (beside (Leaf x) ds) no_trees h = absurd h
roots_expanded (beside (Node p cs) ds) no_trees h = absurd h
roots_expanded (beside (Leaf x) ds) (beside t ts) h = ap₂ (λ y l. y ∷ l) h.0 (roots_expanded ds ts h.1)
roots_expanded (beside (Node p cs) ds) (beside (Leaf y) ts) h = absurd h
roots_expanded (beside (Node p cs) ds) (beside (Node q ks) ts) h = ap₂ (λ (r : Production) (l : List Symbol). Nonterminal r.nonterminal ∷ l) (sym h.0) (roots_expanded ds ts h.2)

pub leaves_expanded : (ds ts : Trees) → Expands ds ts → leaves ts ≡ leaves (pieces ds ts)
leaves_expanded no_trees no_trees h = refl
leaves_expanded no_trees (beside t ts) h = absurd h
leaves_expanded (beside (Leaf x) ds) no_trees h = absurd h
leaves_expanded (beside (Node p cs) ds) no_trees h = absurd h
leaves_expanded (beside (Leaf x) ds) (beside t ts) h =
    leaves_cons t ts ∙ ap (λ (l : List Symbol). leaves (beside t no_trees) ++ l) (leaves_expanded ds ts h.1) ∙ sym (leaves_cons t (pieces ds ts))
leaves_expanded (beside (Node p cs) ds) (beside (Leaf y) ts) h = absurd h
leaves_expanded (beside (Node p cs) ds) (beside (Node q ks) ts) h =
    ap₂ (λ (l m : List Symbol). l ++ m) (leaves_expanded cs ks h.1) (leaves_expanded ds ts h.2) ∙ sym (leaves_along (pieces cs ks) (pieces ds ts))

-- trees of a grammar that are expanded by trees of it are of it
of_first : (g : List Production) (t : Tree) (ts us : Trees) → AreOfGrammar g (beside t ts) → AreOfGrammar g us → AreOfGrammar g (beside t us)
of_first g (Leaf x) ts us h k = k
of_first g (Node p cs) ts us h k = (h.0, h.1, h.2, k)

of_others : (g : List Production) (t : Tree) (ts : Trees) → AreOfGrammar g (beside t ts) → AreOfGrammar g ts
of_others g (Leaf x) ts h = h
of_others g (Node p cs) ts h = h.3

pub of_expanded : (g : List Production) (ds ts : Trees) → Expands ds ts → AreOfGrammar g ds → AreOfGrammar g (pieces ds ts) → AreOfGrammar g ts
of_expanded g no_trees no_trees h a b = tt
of_expanded g no_trees (beside t ts) h a b = absurd h
of_expanded g (beside (Leaf x) ds) no_trees h a b = absurd h
of_expanded g (beside (Node p cs) ds) no_trees h a b = absurd h
of_expanded g (beside (Leaf x) ds) (beside t ts) h a b =
    of_first g t (pieces ds ts) ts b (of_expanded g ds ts h.1 a (of_others g t (pieces ds ts) b))
of_expanded g (beside (Node p cs) ds) (beside (Leaf y) ts) h a b = absurd h
of_expanded g (beside (Node p cs) ds) (beside (Node q ks) ts) h a b =
    let c = of_parts g (pieces cs ks) (pieces ds ts) b in (
      subst (λ (r : Production). Contains g r) h.0 a.0,
      ap (λ (r : Production). r.symbols) (sym h.0) ∙ a.1 ∙ sym (roots_expanded cs ks h.1),
      of_expanded g cs ks h.1 a.2 c.0,
      of_expanded g ds ts h.2 a.3 c.1,
    )

-- ---- different trees give different ones
pub fewer_pieces : (ds ts : Trees) → nodes (pieces ds ts) ≤ nodes ts
fewer_pieces no_trees ts = omega arith
fewer_pieces (beside (Leaf x) ds) no_trees = omega arith
fewer_pieces (beside (Node p cs) ds) no_trees = omega arith
fewer_pieces (beside (Leaf x) ds) (beside t ts) =
    let h : nodes (pieces ds ts) ≤ nodes ts = fewer_pieces ds ts in
    let a : nodes (beside t ts) ≡ nodes (beside t no_trees) + nodes ts = nodes_cons t ts in
    let b : nodes (beside t (pieces ds ts)) ≡ nodes (beside t no_trees) + nodes (pieces ds ts) = nodes_cons t (pieces ds ts) in
    omega (arith, h, a, b)
fewer_pieces (beside (Node p cs) ds) (beside (Leaf y) ts) = omega arith
fewer_pieces (beside (Node p cs) ds) (beside (Node q ks) ts) =
    let h : nodes (pieces cs ks) ≤ nodes ks = fewer_pieces cs ks in
    let k : nodes (pieces ds ts) ≤ nodes ts = fewer_pieces ds ts in
    let a : nodes (along (pieces cs ks) (pieces ds ts)) ≡ nodes (pieces cs ks) + nodes (pieces ds ts) = nodes_along (pieces cs ks) (pieces ds ts) in
    omega (arith, h, k, a)

-- a node that has a leaf is not the first of the pieces below it, and if there are none, it has none
pub no_piece_of_itself : (q : Production) (cs ks a s : Trees) → Expands cs ks → (leaves (beside (Node q ks) no_trees) ≡ [] → ⊥) → beside (Node q ks) a ≡ along (pieces cs ks) s → ⊥
no_piece_of_itself q cs ks a s h some e = go (pieces cs ks) refl
  where
    go : (m : Trees) → pieces cs ks ≡ m → ⊥
    go no_trees none = some (append-nil (leaves ks) ∙ leaves_expanded cs ks h ∙ ap leaves none)
    go (beside t m) is =
        let same : Node q ks ≡ t = same_first (e ∙ ap (λ (n : Trees). along n s) is) in
        let fewer : nodes (pieces cs ks) ≤ nodes ks = fewer_pieces cs ks in
        let here : nodes (pieces cs ks) ≡ nodes (beside t m) = ap nodes is in
        let split : nodes (beside t m) ≡ nodes (beside t no_trees) + nodes m = nodes_cons t m in
        let whole : nodes (beside (Node q ks) no_trees) ≡ nodes (beside t no_trees) = ap (λ (u : Tree). nodes (beside u no_trees)) same in
        let more : nodes (beside (Node q ks) no_trees) ≡ suc (nodes ks + 0) = refl in
        omega (arith, fewer, here, split, whole, more)

-- trees that are expanded to the same ones, with the same pieces, are the same. Other trees may
-- follow the pieces
pub record Same (ds es r s : Trees) : Type 0 where
  pub trees : ds ≡ es
  pub after : r ≡ s

pub same_expanded : (ds es ts r s : Trees) → Expands ds ts → Expands es ts → HaveLeaves (pieces ds ts) → HaveLeaves (pieces es ts) → along (pieces ds ts) r ≡ along (pieces es ts) s → Same ds es r s
same_expanded no_trees no_trees ts r s h k a b e = record { trees = refl; after = e }
same_expanded no_trees (beside (Leaf y) es) no_trees r s h k a b e = absurd k
same_expanded no_trees (beside (Node q cs) es) no_trees r s h k a b e = absurd k
same_expanded no_trees (beside (Leaf y) es) (beside t ts) r s h k a b e = absurd h
same_expanded no_trees (beside (Node q cs) es) (beside t ts) r s h k a b e = absurd h
same_expanded (beside (Leaf x) ds) no_trees no_trees r s h k a b e = absurd h
same_expanded (beside (Node p cs) ds) no_trees no_trees r s h k a b e = absurd h
same_expanded (beside (Leaf x) ds) no_trees (beside t ts) r s h k a b e = absurd k
same_expanded (beside (Node p cs) ds) no_trees (beside t ts) r s h k a b e = absurd k
same_expanded (beside (Leaf x) ds) (beside (Leaf y) es) no_trees r s h k a b e = absurd h
same_expanded (beside (Leaf x) ds) (beside (Node q cs) es) no_trees r s h k a b e = absurd h
same_expanded (beside (Node p cs) ds) (beside (Leaf y) es) no_trees r s h k a b e = absurd h
same_expanded (beside (Node p cs) ds) (beside (Node q bs) es) no_trees r s h k a b e = absurd h
same_expanded (beside (Leaf x) ds) (beside (Leaf y) es) (beside t ts) r s h k a b e =
    let n = same_expanded ds es ts r s h.1 k.1 a.1 b.1 (same_others e) in
    record { trees = ap₂ (λ z zs. beside (Leaf z) zs) (sym h.0 ∙ k.0) n.trees; after = n.after }
same_expanded (beside (Leaf x) ds) (beside (Node q cs) es) (beside (Leaf z) ts) r s h k a b e = absurd k
same_expanded (beside (Node p cs) ds) (beside (Leaf y) es) (beside (Leaf z) ts) r s h k a b e = absurd h
same_expanded (beside (Node p cs) ds) (beside (Node q bs) es) (beside (Leaf z) ts) r s h k a b e = absurd h
same_expanded (beside (Leaf x) ds) (beside (Node q cs) es) (beside (Node z ks) ts) r s h k a b e =
    absurd (no_piece_of_itself z cs ks (along (pieces ds ts) r) (along (pieces es ts) s) k.1 a.0 (e ∙ along_assoc (pieces cs ks) (pieces es ts) s))
same_expanded (beside (Node p cs) ds) (beside (Leaf y) es) (beside (Node z ks) ts) r s h k a b e =
    absurd (no_piece_of_itself z cs ks (along (pieces es ts) s) (along (pieces ds ts) r) h.1 b.0 (sym e ∙ along_assoc (pieces cs ks) (pieces ds ts) r))
same_expanded (beside (Node p cs) ds) (beside (Node q bs) es) (beside (Node z ks) ts) r s h k a b e =
    let c = have_parts (pieces cs ks) (pieces ds ts) a in
    let d = have_parts (pieces bs ks) (pieces es ts) b in
    let apart : along (pieces cs ks) (along (pieces ds ts) r) ≡ along (pieces bs ks) (along (pieces es ts) s) = sym (along_assoc (pieces cs ks) (pieces ds ts) r) ∙ e ∙ along_assoc (pieces bs ks) (pieces es ts) s in
    let m = same_expanded cs bs ks (along (pieces ds ts) r) (along (pieces es ts) s) h.1 k.1 c.0 d.0 apart in
    let n = same_expanded ds es ts r s h.2 k.2 c.1 d.1 m.after in
    record { trees = ap₂ beside (ap₂ Node (h.0 ∙ sym k.0) m.trees) n.trees; after = n.after }
