-- Rows of derivation trees, one after the other.
use Rattle.std.proofs.Common.{◌≡◌, ◌∙◌, ◌+◌, List, [], ◌∷◌, ◌++◌, refl, sym, ap, ap₂, append_assoc, arith}
use mathlib.Core.List.{cons≢nil, head-eq_of_cons-eq, nil≢cons, tail-eq_of_cons-eq}
use Rattle.lalrpop_ambiguity.proofs.Types.{Production, Symbol}
use Rattle.lalrpop_ambiguity.specs.Words.{AreOfGrammar, Leaf, Node, Tree, Trees, beside, leaves, no_trees, nodes, root, roots}

-- trees after other trees
abbrev pub along : Trees → Trees → Trees
along no_trees us = us
along (beside t ts) us = beside t (along ts us)

pub along_assoc : (a b c : Trees) → along (along a b) c ≡ along a (along b c)
along_assoc no_trees b c = refl
along_assoc (beside t ts) b c = ap (beside t) (along_assoc ts b c)

pub roots_along : (a b : Trees) → roots (along a b) ≡ roots a ++ roots b
roots_along no_trees b = refl
roots_along (beside t ts) b = ap (λ (l : List Symbol). root t ∷ l) (roots_along ts b)

pub leaves_along : (a b : Trees) → leaves (along a b) ≡ leaves a ++ leaves b
leaves_along no_trees b = refl
leaves_along (beside (Leaf x) ts) b = ap (λ (l : List Symbol). x ∷ l) (leaves_along ts b)
leaves_along (beside (Node p cs) ts) b = ap (λ (l : List Symbol). leaves cs ++ l) (leaves_along ts b) ∙ sym (append_assoc (leaves cs) (leaves ts) (leaves b))

pub nodes_along : (a b : Trees) → nodes (along a b) ≡ nodes a + nodes b
nodes_along no_trees b = omega arith
nodes_along (beside (Leaf x) ts) b = let h : nodes (along ts b) ≡ nodes ts + nodes b = nodes_along ts b in omega (arith, h)
nodes_along (beside (Node p cs) ts) b = let h : nodes (along ts b) ≡ nodes ts + nodes b = nodes_along ts b in omega (arith, h)

-- rows are of a grammar exactly if both parts are
pub of_along : (g : List Production) (a b : Trees) → AreOfGrammar g a → AreOfGrammar g b → AreOfGrammar g (along a b)
of_along g no_trees b h k = k
of_along g (beside (Leaf x) ts) b h k = of_along g ts b h k
of_along g (beside (Node p cs) ts) b h k = (h.0, h.1, h.2, of_along g ts b h.3 k)

pub of_parts : (g : List Production) (a b : Trees) → AreOfGrammar g (along a b) → AreOfGrammar g a × AreOfGrammar g b
of_parts g no_trees b h = (tt, h)
of_parts g (beside (Leaf x) ts) b h = of_parts g ts b h
of_parts g (beside (Node p cs) ts) b h = let r = of_parts g ts b h.3 in ((h.0, h.1, h.2, r.0), r.1)

-- each tree of a row has a leaf
abbrev pub HaveLeaves : Trees → Type 0
HaveLeaves no_trees = Unit {0}
HaveLeaves (beside t ts) = (leaves (beside t no_trees) ≡ [] → ⊥) × HaveLeaves ts

pub have_along : (a b : Trees) → HaveLeaves a → HaveLeaves b → HaveLeaves (along a b)
have_along no_trees b h k = k
have_along (beside t ts) b h k = (h.0, have_along ts b h.1 k)

pub have_parts : (a b : Trees) → HaveLeaves (along a b) → HaveLeaves a × HaveLeaves b
have_parts no_trees b h = (tt, h)
have_parts (beside t ts) b h = let r = have_parts ts b h.1 in ((h.0, r.0), r.1)

-- the first tree of equal rows, and the others
first_or : Tree → Trees → Tree
first_or t no_trees = t
first_or t (beside u us) = u

others : Trees → Trees
others no_trees = no_trees
others (beside t ts) = ts

pub same_first : {t u : Tree} {ts us : Trees} → beside t ts ≡ beside u us → t ≡ u
unfolding first_or
same_first {t} e = ap (first_or t) e

pub same_others : {t u : Tree} {ts us : Trees} → beside t ts ≡ beside u us → ts ≡ us
unfolding others
same_others e = ap others e

-- ---- rows with given roots
-- a row with the roots of two lists, taken apart
pub record Parts (es : Trees) (l m : List Symbol) : Type 0 where
  pub first : Trees
  pub second : Trees
  pub joined : es ≡ along first second
  pub left : roots first ≡ l
  pub right : roots second ≡ m

pub parts : (es : Trees) (l m : List Symbol) → roots es ≡ l ++ m → Parts es l m
parts es [] m e = record { first = no_trees; second = es; joined = refl; left = refl; right = e }
parts no_trees (x ∷ l) m e = absurd (nil≢cons e)
parts (beside t es) (x ∷ l) m e =
    let r = parts es l m (tail-eq_of_cons-eq e) in
    record {
      first = beside t r.first;
      second = r.second;
      joined = ap (beside t) r.joined;
      left = ap₂ (λ y k. y ∷ k) (head-eq_of_cons-eq e) r.left;
      right = r.right;
    }

-- a row with one root has one tree
pub record Alone (es : Trees) (x : Symbol) : Type 0 where
  pub tree : Tree
  pub is : es ≡ beside tree no_trees
  pub rooted : root tree ≡ x

pub alone : (es : Trees) (x : Symbol) → roots es ≡ x ∷ [] → Alone es x
alone no_trees x e = absurd (nil≢cons e)
alone (beside t no_trees) x e = record { tree = t; is = refl; rooted = head-eq_of_cons-eq e }
alone (beside t (beside u us)) x e = absurd (cons≢nil (tail-eq_of_cons-eq e))
