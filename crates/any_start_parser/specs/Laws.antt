-- Theorems on the expected tokens, which the function of `laws.rt` states.
use Rattle.std.specs.Prelude.{◌↔◌, ℕ, Bool, List}
use Rattle.lalrpop_base.specs.Words.{Bits, IsAugmented, IsRightNext}
use Rattle.lalrpop_grammar.specs.declared.repr.NonterminalString.{NonterminalString}
use Rattle.lalrpop_grammar.specs.declared.repr.Production.{Production}
use Rattle.lalrpop_grammar.specs.declared.repr.TerminalString.{TerminalString}
use Rattle.parse_tables.specs.declared.table.ParseTable.{ParseTable}
use Rattle.table_parser.specs.Words.{AreExpectedAfter, MayComeAfter}
use Rattle.any_start_parser.specs.Expected.{AreExpectedFromAny, MayComeFromAny}

-- after a list, a token is right for a new start symbol exactly if it is right for the old one
abbrev pub AugmentedRightNext : Type 0
AugmentedRightNext = (g h : List Production) (start f : NonterminalString) → IsAugmented g h start f → (read rest : List TerminalString) → IsRightNext h f read rest ↔ IsRightNext g start read rest

-- what is said of a token for each start symbol on no right side holds for each old start symbol
abbrev pub TokensFromAny : Type 0
TokensFromAny = (table : ParseTable) (w : List TerminalString) (bit : ℕ) (may : Bool) → MayComeAfter table w bit may → MayComeFromAny table w bit may

-- so a set with exactly the tokens that may come after terminals has exactly those for each old
-- start symbol
abbrev pub ExpectedFromAny : Type 0
ExpectedFromAny = (table : ParseTable) (bits : List ℕ) (tokens : Bits) → AreExpectedAfter table bits tokens → AreExpectedFromAny table bits tokens
