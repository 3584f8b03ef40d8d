-- Productions of one nonterminal with the same right side. A sentence that needs one of them has two parse trees, so that the grammar is ambiguous (Grune and Jacobs, "Parsing Techniques", section 3.1.2).
use Rattle.std.specs.Prelude.{◌≡◌, ◌↔◌, ◌⊎◌, ℕ, ◌<◌, List, length, slice_get, Some, Contains}
use Rattle.lalrpop_grammar.specs.declared.repr.NonterminalString.{NonterminalString}
use Rattle.lalrpop_grammar.specs.declared.repr.Production.{Production}
use Rattle.lalrpop_grammar.specs.declared.repr.Symbol.{Symbol}
use Rattle.lalrpop_grammar.specs.declared.repr.grammar.Grammar.{Grammar}
use Rattle.lalrpop_grammar.specs.grammars.WellFormed.{productions_of}

-- no production at the first n places has these symbols on its right side
abbrev pub NoneBelow : List Production → List Symbol → ℕ → Type 0
NoneBelow ps symbols n = (k : ℕ) (p : Production) → k < n → slice_get ps k ≡ Some p → p.symbols ≡ symbols → ⊥

-- at the place is a production with these symbols on its right side, and at no place before it
pub record IsFirstWith (ps : List Production) (symbols : List Symbol) (place : ℕ) (first : Production) : Type 0 where
  pub there : slice_get ps place ≡ Some first
  pub same : first.symbols ≡ symbols
  pub none : NoneBelow ps symbols place

-- the production at the place has the right side of an earlier one, the first that has it
pub record RepeatsAt (ps : List Production) (place : ℕ) (later first : Production) : Type 0 where
  pub there : slice_get ps place ≡ Some later
  pub earlier : ℕ
  pub before : earlier < place
  pub at : IsFirstWith ps later.symbols earlier first

-- one at the first n places has
abbrev pub RepeatsBelow : List Production → ℕ → Production → Production → Type 0
RepeatsBelow ps n later first = (place : ℕ) × (place < n) × RepeatsAt ps place later first

-- one of a nonterminal has
abbrev pub IsRepeat : Grammar → Production → Production → Type 0
IsRepeat g later first = (a : NonterminalString) × RepeatsBelow (productions_of g a) (length (productions_of g a)) later first

-- what repeats so is added to a list of pairs, and nothing else
abbrev pub AddsRepeats : (Production → Production → Type 0) → List (Production × Production) → List (Production × Production) → Type 0
AddsRepeats Such old new = (later first : Production) → Contains new (later, first) ↔ (Contains old (later, first) ⊎ Such later first)
