-- The suffixes of dotted productions: FIRST of the symbols after the nonterminal after the dot.
use Rattle.std.specs.Prelude.{◌≡◌, ◌↔◌, ℕ, List, ◌∷◌, length, drop, slice_get, Option, Some, IsTrue, MatchOption}
use Rattle.lalrpop_grammar.specs.grammars.Grammar.{IsFirst, IsNullable}
use Rattle.lalrpop_grammar.specs.grammars.WellFormed.{Rules}
use Rattle.lalrpop_collections.specs.lists.Bits.{has}
use Rattle.lalrpop_states.specs.states.Items.{Dotted}
use Rattle.lalrpop_states.specs.declared.lookahead.nil.Nil.{Nil}
use Rattle.lalrpop_grammar.specs.declared.repr.NonterminalString.{NonterminalString}
use Rattle.lalrpop_grammar.specs.declared.repr.Symbol.{Symbol}
use Rattle.lalrpop_grammar.specs.declared.repr.Symbol.TheVariants.{Nonterminal}
use Rattle.lalrpop_grammar.specs.declared.repr.TerminalString.{TerminalString}
use Rattle.lalrpop_numbers.specs.declared.numbers.suffixes.Suffix.{Suffix}

-- the suffix has FIRST of the symbols, without `Eof`, and says whether the symbols are nullable
pub record IsSuffix (g : Rules) (symbols : List Symbol) (suffix : Suffix) : Type 0 where
  pub first : (bit : ℕ) → IsTrue (has suffix.first bit) ↔ ((t : TerminalString) × (slice_get g.terminals bit ≡ Some t) × IsFirst g.productions symbols t)
  pub nullable : IsTrue suffix.nullable ↔ IsNullable g.productions symbols

-- nonterminal `a` is after the dot, and `after` are the symbols after it
abbrev pub HasSuffix : Dotted Nil → NonterminalString → List Symbol → Type 0
HasSuffix i a after = drop i.index i.production.symbols ≡ Nonterminal a ∷ after

-- the result is the suffix of the dotted production, if a nonterminal is after its dot
abbrev pub IsSuffixOf : Rules → Dotted Nil → Option Suffix → Type 0
IsSuffixOf g i found = MatchOption found ((a : NonterminalString) (after : List Symbol) → ¬ HasSuffix i a after) (λ suffix. (a : NonterminalString) × (after : List Symbol) × HasSuffix i a after × IsSuffix g after suffix)

-- the list has the suffix of each dotted production
pub record AreSuffixes (g : Rules) (items : List (Dotted Nil)) (suffixes : List (Option Suffix)) : Type 0 where
  pub counted : length suffixes ≡ length items
  pub each : (k : ℕ) (i : Dotted Nil) (suffix : Option Suffix) → slice_get items k ≡ Some i → slice_get suffixes k ≡ Some suffix → IsSuffixOf g i suffix
