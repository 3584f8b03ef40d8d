-- Derivation trees of lists of symbols: the parse trees of Aho, Sethi and Ullman, section 4.2,
-- before each nonterminal at a leaf is expanded. An inner node has its production, so that trees
-- differ if their productions do.
use Rattle.std.specs.Prelude.{◌≡◌, ℕ, suc, ◌+◌, List, [], ◌∷◌, ◌++◌, Contains}
use Rattle.lalrpop_grammar.specs.declared.repr.Production.{Production}
use Rattle.lalrpop_grammar.specs.declared.repr.Symbol.{Symbol}
use Rattle.lalrpop_grammar.specs.declared.repr.Symbol.TheVariants.{Nonterminal}

-- a derivation tree: a symbol, or a production over the children of its node
mutual
  pub data Tree : Type 0 where
    Leaf : Symbol → Tree
    Node : Production → Trees → Tree

  -- trees in a row
  pub data Trees : Type 0 where
    no_trees : Trees
    beside : Tree → Trees → Trees

-- the trees of a list
abbrev pub trees_of : List Tree → Trees
trees_of [] = no_trees
trees_of (t ∷ ts) = beside t (trees_of ts)

-- the symbol at a tree's root: that of a leaf, or the nonterminal of the production
abbrev pub root : Tree → Symbol
root (Leaf x) = x
root (Node p children) = Nonterminal p.nonterminal

-- the symbols at the roots
abbrev pub roots : Trees → List Symbol
roots no_trees = []
roots (beside t ts) = root t ∷ roots ts

-- the symbols at the leaves, from the left
abbrev pub leaves : Trees → List Symbol
leaves no_trees = []
leaves (beside (Leaf x) ts) = x ∷ leaves ts
leaves (beside (Node p children) ts) = leaves children ++ leaves ts

-- the number of nodes, both inner ones and leaves
abbrev pub nodes : Trees → ℕ
nodes no_trees = 0
nodes (beside (Leaf x) ts) = suc (nodes ts)
nodes (beside (Node p children) ts) = suc (nodes children + nodes ts)

-- each inner node has a production of g, whose right side is at the roots of the children
abbrev pub AreOfGrammar : List Production → Trees → Type 0
AreOfGrammar g no_trees = Unit {0}
AreOfGrammar g (beside (Leaf x) ts) = AreOfGrammar g ts
AreOfGrammar g (beside (Node p children) ts) = Contains g p × (p.symbols ≡ roots children) × AreOfGrammar g children × AreOfGrammar g ts

-- a derivation of a list of symbols from a symbol: the symbol is at the root, productions of g give
-- the inner nodes, and the list is at the leaves
pub record IsDerivation (g : List Production) (x : Symbol) (l : List Symbol) (t : Tree) : Type 0 where
  pub from : root t ≡ x
  pub of_grammar : AreOfGrammar g (beside t no_trees)
  pub of_list : leaves (beside t no_trees) ≡ l
