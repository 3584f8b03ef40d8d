-- What the lines so far have given.
use Rattle.std.specs.Prelude.{◌≡◌, ◌≤◌, ◌^◌, Bool, true, false, List, map, vec_len, option_map, MatchResult}
use Rattle.std.specs.List.{list_any}
use Rattle.std.specs.BTreeMap.{get, IsOrdered}
use Rattle.std.specs.BTreeSet.{contains}
use Rattle.std.specs.Ordering.{is_eq}
use Rattle.std.specs.declared.result.Result.{Result}
use Rattle.lalrpop_base.specs.Words.{name_cmp}
use Rattle.lalrpop_grammar.specs.declared.repr.NonterminalString.{NonterminalString}
use Rattle.lalrpop_grammar.specs.declared.repr.TerminalString.{TerminalString}
use Rattle.lalrpop_grammar.specs.declared.repr.Symbol.{Symbol}
use Rattle.lalrpop_grammar.specs.declared.repr.Span.{Span}
use Rattle.grammar_text.specs.declared.lines.Line.{Line}
use Rattle.grammar_text.specs.declared.lines.Line.TheVariants.{Blank, Production, Inline, Fault}
use Rattle.grammar_text.specs.declared.lines.PlacedLine.{PlacedLine}
use Rattle.grammar_text.specs.declared.collected.Collected.{Collected}
use Rattle.grammar_text.specs.declared.read_error.ReadError.{ReadError}
use Rattle.grammar_text.specs.declared.read_error.ReadError.TheVariants.{Line as LineError, TooManyActions, Memory}
use Rattle.grammar_text.specs.Grammar.{entry_of, terminal_cmp, terminals_in, productions_in, user_action}
use Rattle.lalrpop_grammar.specs.grammars.Entries.{entry_view}
use Rattle.grammar_text.specs.Faults.{IsTooLong}

-- whether the order of terminals finds two terminals equal
abbrev pub is_same : TerminalString → TerminalString → Bool
is_same x t = is_eq (terminal_cmp x t)

-- what was collected is what the lines give: an entry for each name, the terminals of the right
-- sides, and an action for each production
pub record IsCollected (lines : List PlacedLine) (c : Collected) : Type 0 where
  pub entries : (a : NonterminalString) → option_map entry_view (get name_cmp c.nonterminals a) ≡ entry_of a lines
  pub ordered : IsOrdered name_cmp c.nonterminals
  pub terminals : (t : TerminalString) → contains terminal_cmp c.terminals t ≡ list_any (λ x. is_same x t) (terminals_in (productions_in lines))
  pub actions : c.action_fn_defns.items ≡ map (λ _. user_action) (productions_in lines)

-- whether what a line says is a production
abbrev pub is_production_line : Line → Bool
is_production_line Blank = false
is_production_line (Production a symbols) = true
is_production_line (Inline a) = false
is_production_line Fault = false

-- whether a line is a production
abbrev pub is_production : PlacedLine → Bool
is_production l = is_production_line l.line

-- the line of a production
abbrev pub production_at : NonterminalString → List Symbol → Span → PlacedLine
production_at a symbols span = record { line = Production a symbols; span = span }

-- the line that marks a nonterminal to be inlined
abbrev pub inline_at : NonterminalString → Span → PlacedLine
inline_at a span = record { line = Inline a; span = span }

-- an error says why a line cannot be added: it is a production and no number of an action is left,
-- or an allocation failed
abbrev pub IsAddError : Collected → PlacedLine → ReadError → Type 0
IsAddError c line (LineError n) = ⊥
IsAddError c line TooManyActions = (is_production line ≡ true) × (2 ^ 32 ≤ vec_len c.action_fn_defns)
IsAddError c line Memory = Unit {0}

-- what the lines so far have given: what was collected, or why it could not be collected
abbrev pub IsSoFar : List PlacedLine → Result Collected ReadError → Type 0
IsSoFar lines so_far = MatchResult so_far (λ c. IsCollected lines c × (vec_len c.action_fn_defns ≤ 2 ^ 32)) (IsTooLong lines)
