-- Grammars whose start symbol may be on a right side, by their augmented grammars: Aho, Sethi and
-- Ullman, "Compilers", section 4.7.
use Rattle.std.specs.Prelude.{◌≡◌, ℕ, ◌<◌, List, Some, slice_get}
use Rattle.lalrpop_base.specs.Words.{AreFaithful, Contents, IsAugmented, IsParseTree, Tree, beside, no_trees, nodes}
use Rattle.lalrpop_grammar.specs.declared.repr.NonterminalString.{NonterminalString}
use Rattle.lalrpop_grammar.specs.declared.repr.Production.{Production}
use Rattle.lalrpop_grammar.specs.declared.repr.TerminalString.{TerminalString}

-- the property holds of each grammar g and start symbol, which may be on a right side, with a new
-- start symbol f, if the states are faithful to a grammar h that is g augmented with f
abbrev pub ForEachAugmented : (ℕ → Contents) → (List Production → NonterminalString → NonterminalString → Type 0) → Type 0
ForEachAugmented states P = (g h : List Production) (start f : NonterminalString) → IsAugmented g h start f → AreFaithful h f states → P g start f

-- the production with a number is one of a nonterminal
abbrev pub IsOf : List Production → NonterminalString → ℕ → Type 0
IsOf productions name number = (p : Production) × (slice_get productions number ≡ Some p) × (p.nonterminal ≡ name)

-- it is one of the nonterminal, and no production with another number is
pub record IsOnlyOf (productions : List Production) (name : NonterminalString) (number : ℕ) : Type 0 where
  pub is : IsOf productions name number
  pub only : (k : ℕ) → IsOf productions name k → k ≡ number

-- the tree is a parse tree of the list with fewer nodes than the limit
pub record IsTreeBelow (limit : ℕ) (w : List TerminalString) (t : Tree) (g : List Production) (start : NonterminalString) : Type 0 where
  pub parse : IsParseTree g start w t
  pub below : nodes (beside t no_trees) < limit
