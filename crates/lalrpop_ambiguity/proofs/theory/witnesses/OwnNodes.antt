-- Trees on a stack whose nodes are given by productions of a grammar.
use Rattle.std.proofs.Common.{◌≡◌, ◌↔◌, List, [], ◌∷◌, ◌++◌, map, reverse, refl, sym, ap, subst}
use Rattle.std.specs.Prelude.{Contains}
use Rattle.std.proofs.lemmas.List.{reverse-append}
use Rattle.lalrpop_ambiguity.proofs.Types.{Production, Symbol}
use Rattle.lalrpop_ambiguity.specs.declared.derivation.Derivation.{Derivation}
use Rattle.lalrpop_ambiguity.specs.Words.{AreOfGrammar, Leaf, Node, Tree, beside, no_trees, root, roots, roots_of, tree_of, trees_of}
use Rattle.lalrpop_ambiguity.proofs.theory.witnesses.Rows.{along, of_along, of_parts}

trees_of-append : (ts us : List Tree) → trees_of (ts ++ us) ≡ along (trees_of ts) (trees_of us)
trees_of-append [] us = refl
trees_of-append (t ∷ ts) us = ap (beside t) (trees_of-append ts us)

pub roots_seen : (ds : List Derivation) → roots (trees_of (map tree_of ds)) ≡ roots_of ds
roots_seen [] = refl
roots_seen (d ∷ ds) = ap (λ (l : List Symbol). root (tree_of d) ∷ l) (roots_seen ds)

module _ (g : List Production) where
  pub own_append : (ts us : List Tree) → AreOfGrammar g (trees_of ts) → AreOfGrammar g (trees_of us) → AreOfGrammar g (trees_of (ts ++ us))
  own_append ts us h k = subst (AreOfGrammar g) (sym (trees_of-append ts us)) (of_along g (trees_of ts) (trees_of us) h k)

  pub own_parts : (ts us : List Tree) → AreOfGrammar g (trees_of (ts ++ us)) → AreOfGrammar g (trees_of ts) × AreOfGrammar g (trees_of us)
  own_parts ts us h = of_parts g (trees_of ts) (trees_of us) (subst (AreOfGrammar g) (trees_of-append ts us) h)

  own_first : (t : Tree) (ts : List Tree) → AreOfGrammar g (trees_of (t ∷ ts)) → AreOfGrammar g (beside t no_trees) × AreOfGrammar g (trees_of ts)
  own_first t ts h = own_parts (t ∷ []) ts h

  pub own_reverse : (ts : List Tree) → AreOfGrammar g (trees_of ts) → AreOfGrammar g (trees_of (reverse ts))
  own_reverse [] h = tt
  own_reverse (t ∷ ts) h =
      let p = own_first t ts h in
      subst (λ (l : List Tree). AreOfGrammar g (trees_of l)) (sym (reverse-append (t ∷ []) ts)) (own_append (reverse ts) (t ∷ []) (own_reverse ts p.1) p.0)

  pub own_reversed : (ts : List Tree) → AreOfGrammar g (trees_of (reverse ts)) → AreOfGrammar g (trees_of ts)
  own_reversed [] h = tt
  own_reversed (t ∷ ts) h =
      let p = own_parts (reverse ts) (t ∷ []) (subst (λ (l : List Tree). AreOfGrammar g (trees_of l)) (reverse-append (t ∷ []) ts) h) in
      own_append (t ∷ []) ts p.1 (own_reversed ts p.0)

  -- the trees on a stack are of the grammar exactly if they are after a leaf was read
  pub own_leaf : (front : List Tree) (x : Symbol) → AreOfGrammar g (trees_of front) ↔ AreOfGrammar g (trees_of (front ++ Leaf x ∷ []))
  own_leaf front x = (λ h. own_append front (Leaf x ∷ []) h tt, λ h. (own_parts front (Leaf x ∷ []) h).0)

  -- so they are after a node was read that a production gives
  pub own_node : (front : List Tree) (p : Production) (children : List Tree) → Contains g p → p.symbols ≡ roots (trees_of children) → AreOfGrammar g (trees_of (front ++ reverse children)) ↔ AreOfGrammar g (trees_of (front ++ Node p (trees_of children) ∷ []))
  own_node front p children there right = (
    λ h. let q = own_parts front (reverse children) h in own_append front (Node p (trees_of children) ∷ []) q.0 (there, right, own_reversed children q.1, tt),
    λ h. let q = own_parts front (Node p (trees_of children) ∷ []) h in own_append front (reverse children) q.0 (own_reverse children q.1.2),
  )

  -- the last tree of a stack
  pub own_last : (front : List Tree) (t : Tree) → AreOfGrammar g (trees_of (front ++ t ∷ [])) → AreOfGrammar g (beside t no_trees)
  own_last front t h = (own_parts front (t ∷ []) h).1
