-- Parse trees: Aho, Sethi and Ullman, section 4.2.
use Rattle.std.specs.Prelude.{◌≡◌, ℕ, suc, ◌+◌, List, [], ◌∷◌, ◌++◌, Contains}
use Rattle.lalrpop_grammar.specs.declared.repr.NonterminalString.{NonterminalString}
use Rattle.lalrpop_grammar.specs.declared.repr.TerminalString.{TerminalString}
use Rattle.lalrpop_grammar.specs.declared.repr.Production.{Production}
use Rattle.lalrpop_grammar.specs.declared.repr.Symbol.{Symbol}
use Rattle.lalrpop_grammar.specs.declared.repr.Symbol.TheVariants.{Nonterminal, Terminal}

-- a parse tree, whatever its place in memory is: a terminal, or a nonterminal over its children
mutual
  pub data Tree : Type 0 where
    Leaf : TerminalString → Tree
    Node : NonterminalString → Trees → Tree

  -- trees in a row
  pub data Trees : Type 0 where
    no_trees : Trees
    beside : Tree → Trees → Trees

-- the trees of a list
abbrev pub trees_of : List Tree → Trees
trees_of [] = no_trees
trees_of (t ∷ ts) = beside t (trees_of ts)

-- the symbol at a tree's root
abbrev pub root : Tree → Symbol
root (Leaf t) = Terminal t
root (Node a children) = Nonterminal a

-- the symbols at the roots
abbrev pub roots : Trees → List Symbol
roots no_trees = []
roots (beside t ts) = root t ∷ roots ts

-- the terminals at the leaves, from the left
abbrev pub leaves : Trees → List TerminalString
leaves no_trees = []
leaves (beside (Leaf t) ts) = t ∷ leaves ts
leaves (beside (Node a children) ts) = leaves children ++ leaves ts

-- the number of nodes, both inner ones and leaves
abbrev pub nodes : Trees → ℕ
nodes no_trees = 0
nodes (beside (Leaf t) ts) = suc (nodes ts)
nodes (beside (Node a children) ts) = suc (nodes children + nodes ts)

-- a production of g gives a node: the nonterminal of the production is the node's name, and its
-- symbols are the children's roots
pub record IsNode (g : List Production) (a : NonterminalString) (children : Trees) : Type 0 where
  pub production : Production
  pub of_grammar : Contains g production
  pub name : production.nonterminal ≡ a
  pub symbols : production.symbols ≡ roots children

-- each inner node is given by a production
abbrev pub AreOfGrammar : List Production → Trees → Type 0
AreOfGrammar g no_trees = Unit {0}
AreOfGrammar g (beside (Leaf t) ts) = AreOfGrammar g ts
AreOfGrammar g (beside (Node a children) ts) = IsNode g a children × AreOfGrammar g children × AreOfGrammar g ts

-- a parse tree of a list of terminals from the start symbol: its root is the start symbol,
-- productions give its inner nodes, and its leaves are the list
pub record IsParseTree (g : List Production) (start : NonterminalString) (w : List TerminalString) (t : Tree) : Type 0 where
  pub from_start : root t ≡ Nonterminal start
  pub of_grammar : AreOfGrammar g (beside t no_trees)
  pub of_list : leaves (beside t no_trees) ≡ w
