-- Witnesses of ambiguity: Isradisaikul and Myers, "Finding Counterexamples from Parsing Conflicts",
-- section 3. Their unifying counterexample is a list of symbols that one nonterminal derives in two
-- ways. That a grammar is ambiguous is from Aho, Sethi and Ullman, section 4.2.
use Rattle.std.specs.Prelude.{◌≡◌, ◌≢◌, List, [], ◌∷◌, Contains}
use Rattle.lalrpop_grammar.specs.declared.repr.NonterminalString.{NonterminalString}
use Rattle.lalrpop_grammar.specs.declared.repr.Production.{Production}
use Rattle.lalrpop_grammar.specs.declared.repr.Symbol.{Symbol}
use Rattle.lalrpop_grammar.specs.declared.repr.Symbol.TheVariants.{Nonterminal}
use Rattle.lalrpop_grammar.specs.declared.repr.TerminalString.{TerminalString}
use Rattle.lalrpop_grammar.specs.grammars.Grammar.{Derives, terminal_symbols}
use Rattle.lalrpop_grammar.specs.parsing.Trees.{IsParseTree, Tree as ParseTree}
use Rattle.lalrpop_ambiguity.specs.derivations.Derivations.{AreOfGrammar, IsDerivation, Tree, beside, leaves, no_trees, root}

-- two trees have the same nonterminal at their roots
abbrev pub HaveOneRoot : Tree → Tree → Type 0
HaveOneRoot left right = (a : NonterminalString) × (root left ≡ Nonterminal a) × (root right ≡ Nonterminal a)

-- a witness of ambiguity: two different derivations of one list of symbols from one nonterminal
pub record IsWitness (g : List Production) (left right : Tree) : Type 0 where
  pub one_root : HaveOneRoot left right
  pub left_of_grammar : AreOfGrammar g (beside left no_trees)
  pub right_of_grammar : AreOfGrammar g (beside right no_trees)
  pub same_leaves : leaves (beside left no_trees) ≡ leaves (beside right no_trees)
  pub differ : left ≢ right

-- a production of g has these symbols on its right side
abbrev pub IsExpansion : List Production → Production → List Symbol → Type 0
IsExpansion g p symbols = Contains g p × (p.symbols ≡ symbols)

-- ---- what a witness says of sentences
-- each symbol of a list derives a list of terminals
abbrev pub DeriveTerminals : List Production → List Symbol → Type 0
DeriveTerminals g l = (x : Symbol) → Contains l x → (w : List TerminalString) × Derives g (x ∷ []) (terminal_symbols w)

-- each symbol of a list derives a list of terminals that is not empty
abbrev pub DeriveSome : List Production → List Symbol → Type 0
DeriveSome g l = (x : Symbol) → Contains l x → (t : TerminalString) × (w : List TerminalString) × Derives g (x ∷ []) (terminal_symbols (t ∷ w))

-- a nonterminal is in a list of symbols that the start symbol derives, and the symbols of the list
-- derive lists of terminals
pub record IsUseful (g : List Production) (start a : NonterminalString) : Type 0 where
  pub form : List Symbol
  pub derived : Derives g (Nonterminal start ∷ []) form
  pub there : Contains form (Nonterminal a)
  pub productive : DeriveTerminals g form

-- some list of terminals has two different derivations from the start symbol
pub record HasTwoDerivations (g : List Production) (start : NonterminalString) : Type 0 where
  pub sentence : List TerminalString
  pub left : Tree
  pub right : Tree
  pub left_derives : IsDerivation g (Nonterminal start) (terminal_symbols sentence) left
  pub right_derives : IsDerivation g (Nonterminal start) (terminal_symbols sentence) right
  pub differ : left ≢ right

-- no two productions of a nonterminal have the same right side
abbrev pub HasNoTwins : List Production → Type 0
HasNoTwins g = (p q : Production) → Contains g p → Contains g q → p.nonterminal ≡ q.nonterminal → p.symbols ≡ q.symbols → p ≡ q

-- a grammar is ambiguous if some list of terminals has two different parse trees
pub record IsAmbiguous (g : List Production) (start : NonterminalString) : Type 0 where
  pub sentence : List TerminalString
  pub left : ParseTree
  pub right : ParseTree
  pub left_parses : IsParseTree g start sentence left
  pub right_parses : IsParseTree g start sentence right
  pub differ : left ≢ right

-- ---- the theorems
-- a witness gives two derivations of a sentence, if its root is useful and each symbol at its leaves
-- derives a list of terminals that is not empty
abbrev pub WitnessesHaveSentences : Type 0
WitnessesHaveSentences = (g : List Production) (start a : NonterminalString) (left right : Tree) → IsWitness g left right → root left ≡ Nonterminal a → IsUseful g start a → DeriveSome g (leaves (beside left no_trees)) → HasTwoDerivations g start

-- two derivations of a sentence have different parse trees, if no two productions of a nonterminal
-- have the same right side
abbrev pub DerivationsHaveTrees : Type 0
DerivationsHaveTrees = (g : List Production) (start : NonterminalString) → HasNoTwins g → HasTwoDerivations g start → IsAmbiguous g start
