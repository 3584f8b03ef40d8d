-- The sides of the productions of a parse table, as two lists of numbers.
use Rattle.std.specs.Prelude.{◌≡◌, ℕ, ◌<◌, List, length, slice_get, slice_index, Some}
use Rattle.lalrpop_grammar.specs.declared.repr.Production.{Production}
use Rattle.parse_tables.specs.declared.table.ParseTable.{ParseTable}

-- a number is that of the nonterminal of the production with a number
abbrev pub IsLeftSide : ParseTable → ℕ → ℕ → Type 0
IsLeftSide t production nonterminal = (p : Production) → slice_get t.productions production ≡ Some p → slice_get t.nonterminals nonterminal ≡ Some p.nonterminal

-- a list has the number of the nonterminal of each production
pub record AreLeftSides (t : ParseTable) (left : List ℕ) : Type 0 where
  pub long : length left ≡ length t.productions
  pub each : (production : ℕ) → production < length left → IsLeftSide t production (slice_index left production)

-- a number is that of the symbols of the right side of the production with a number
abbrev pub IsLength : ParseTable → ℕ → ℕ → Type 0
IsLength t production count = (p : Production) → slice_get t.productions production ≡ Some p → count ≡ length p.symbols

-- a list has the number of symbols of each production
pub record AreLengths (t : ParseTable) (lengths : List ℕ) : Type 0 where
  pub long : length lengths ≡ length t.productions
  pub each : (production : ℕ) → production < length lengths → IsLength t production (slice_index lengths production)
