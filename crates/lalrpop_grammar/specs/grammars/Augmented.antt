-- A grammar with a new start symbol: the augmented grammar of Aho, Sethi and Ullman, section 4.7.
use Rattle.std.specs.Prelude.{◌≡◌, ◌↔◌, ◌⊎◌, List, [], ◌∷◌, Contains}
use Rattle.lalrpop_grammar.specs.declared.repr.NonterminalString.{NonterminalString}
use Rattle.lalrpop_grammar.specs.declared.repr.Production.{Production}
use Rattle.lalrpop_grammar.specs.declared.repr.Symbol.TheVariants.{Nonterminal}
use Rattle.lalrpop_grammar.specs.grammars.Grammar.{IsOnNoRightSide}

-- a name is fresh if no production is its own, and it is on no right side
abbrev pub IsFresh : List Production → NonterminalString → Type 0
IsFresh g f = ((p : Production) → Contains g p → p.nonterminal ≡ f → ⊥) × IsOnNoRightSide g f

-- h is g with one more production, from a fresh name f to the start symbol
pub record IsAugmented (g h : List Production) (start f : NonterminalString) : Type 0 where
  pub added : Production
  pub more : (p : Production) → Contains h p ↔ (Contains g p ⊎ (p ≡ added))
  pub name : added.nonterminal ≡ f
  pub symbols : added.symbols ≡ Nonterminal start ∷ []
  pub fresh : IsFresh g f
  pub other : start ≡ f → ⊥
