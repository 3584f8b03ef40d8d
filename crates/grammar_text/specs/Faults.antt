-- Why a text gives no grammar.
use Rattle.std.specs.Prelude.{◌≡◌, ℕ, ◌+◌, ◌^◌, ◌<◌, List, length, None, Some, position}
use Rattle.grammar_text.specs.declared.lines.PlacedLine.{PlacedLine}
use Rattle.grammar_text.specs.declared.read_error.ReadError.{ReadError}
use Rattle.grammar_text.specs.declared.read_error.ReadError.TheVariants.{Line, TooManyActions, Memory}
use Rattle.grammar_text.specs.Lines.{is_fault}
use Rattle.grammar_text.specs.Grammar.{productions_in}

-- an error says why lines are too long: there are more productions than numbers of actions, or an
-- allocation failed
abbrev pub IsTooLong : List PlacedLine → ReadError → Type 0
IsTooLong lines (Line n) = ⊥
IsTooLong lines TooManyActions = 2 ^ 32 < length (productions_in lines)
IsTooLong lines Memory = Unit {0}

-- an error says why lines give no grammar: it has the number, counted from 1, of the first line
-- that is no grammar line; or each line is a grammar line and there are too many productions; or an
-- allocation failed
abbrev pub IsFaultOf : List PlacedLine → ReadError → Type 0
IsFaultOf lines (Line n) = (at : ℕ) × (position is_fault lines ≡ Some at) × (n ≡ at + 1)
IsFaultOf lines TooManyActions = (position is_fault lines ≡ None) × (2 ^ 32 < length (productions_in lines))
IsFaultOf lines Memory = Unit {0}
