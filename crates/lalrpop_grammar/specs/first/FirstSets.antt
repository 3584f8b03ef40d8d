-- FIRST of a list, by sets for the nonterminals: Aho, Sethi and Ullman, section 4.4.
use Rattle.std.specs.Prelude.{◌≡◌, ◌⊎◌, List, [], ◌∷◌, Contains}
use Rattle.lalrpop_grammar.specs.declared.repr.NonterminalString.{NonterminalString}
use Rattle.lalrpop_grammar.specs.declared.repr.TerminalString.{TerminalString}
use Rattle.lalrpop_grammar.specs.declared.repr.Production.{Production}
use Rattle.lalrpop_grammar.specs.declared.repr.Symbol.{Symbol}
use Rattle.lalrpop_grammar.specs.declared.repr.Symbol.TheVariants.{Nonterminal, Terminal}
use Rattle.lalrpop_grammar.specs.grammars.Grammar.{IsFirst, IsNullable}

-- a list is nullable if these nonterminals are the nullable ones
abbrev pub NullableBy : (NonterminalString → Type 0) → List Symbol → Type 0
NullableBy null [] = Unit {0}
NullableBy null (Terminal t ∷ l) = ⊥
NullableBy null (Nonterminal a ∷ l) = null a × NullableBy null l

-- t is in FIRST of a list if these sets are those of the nonterminals
abbrev pub FirstBy : (NonterminalString → Type 0) → (NonterminalString → TerminalString → Type 0) → List Symbol → TerminalString → Type 0
FirstBy null first [] t = ⊥
FirstBy null first (Terminal x ∷ l) t = t ≡ x
FirstBy null first (Nonterminal a ∷ l) t = first a t ⊎ (null a × FirstBy null first l t)

-- no production adds anything to these sets, and each of their entries is right: the nonterminal is
-- nullable, or has the terminal in FIRST
pub record AreFirstSets (g : List Production) (null : NonterminalString → Type 0) (first : NonterminalString → TerminalString → Type 0) : Type 0 where
  pub null_closed : (p : Production) → Contains g p → NullableBy null p.symbols → null p.nonterminal
  pub first_closed : (p : Production) (t : TerminalString) → Contains g p → FirstBy null first p.symbols t → first p.nonterminal t
  pub null_right : (a : NonterminalString) → null a → IsNullable g (Nonterminal a ∷ [])
  pub first_right : (a : NonterminalString) (t : TerminalString) → first a t → IsFirst g (Nonterminal a ∷ []) t
