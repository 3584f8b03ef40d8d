-- The grammar that a text gives, in terms of what its lines say.
use Rattle.std.specs.Prelude.{◌≡◌, ◌↔◌, ℕ, ◌+◌, Bool, false, List, [], ◌∷◌, ◌++◌, length, map, filter, find, Contains, Option, None, Some, option_map, codes, if◌then◌else◌}
use Rattle.std.specs.List.{flat_map}
use Rattle.std.specs.List.Sorted.{IsStrictlySortedBy}
use Rattle.std.specs.Str.{bytes_eq}
use Rattle.std.specs.BTreeMap.{get, IsOrdered}
use Rattle.std.specs.declared.cmp.Ordering.{Ordering}
use Rattle.lalrpop_base.specs.Words.{inline_mark, name_cmp}
use Rattle.lalrpop_grammar.specs.contracts.repr.TerminalStringOrd.TheImpl as terminal
use Rattle.lalrpop_grammar.specs.declared.repr.NonterminalString.{NonterminalString}
use Rattle.lalrpop_grammar.specs.declared.repr.TerminalString.{TerminalString}
use Rattle.lalrpop_grammar.specs.declared.repr.Symbol.{Symbol}
use Rattle.lalrpop_grammar.specs.declared.repr.Symbol.TheVariants.{Nonterminal, Terminal}
use Rattle.lalrpop_grammar.specs.declared.repr.Production.{Production}
use Rattle.lalrpop_grammar.specs.declared.repr.Span.{Span}
use Rattle.lalrpop_grammar.specs.declared.repr.grammar.Grammar.{Grammar}
use Rattle.lalrpop_grammar.specs.declared.repr.grammar.Attribute.{Attribute}
use Rattle.lalrpop_grammar.specs.declared.repr.grammar.ActionFnDefn.{ActionFnDefn}
use Rattle.lalrpop_grammar.specs.declared.repr.grammar.ActionFnDefnKind.TheVariants.{User}
use Rattle.grammar_text.specs.declared.lines.Line.{Line}
use Rattle.grammar_text.specs.declared.lines.Line.TheVariants.{Blank, Production as production_line, Inline, Fault}
use Rattle.grammar_text.specs.declared.lines.PlacedLine.{PlacedLine}
use Rattle.lalrpop_grammar.specs.grammars.Entries.{entry_view, Entry}

-- the production that a line is, if it is one, with an action and a span
abbrev pub production_of : ℕ → Span → Line → List Production
production_of action span Blank = []
production_of action span (production_line a symbols) = record { nonterminal = a; symbols = symbols; action = record { 0 = action }; span = span } ∷ []
production_of action span (Inline a) = []
production_of action span Fault = []

-- the productions of lines in their order: the first has the given action, and each later one has
-- the next action
abbrev pub productions_from : ℕ → List PlacedLine → List Production
productions_from action [] = []
productions_from action (l ∷ ls) = production_of action l.span l.line ++ productions_from (action + length (production_of action l.span l.line)) ls

-- the productions of a text in the order of lines, with actions from 0 on
abbrev pub productions_in : List PlacedLine → List Production
productions_in lines = productions_from 0 lines

-- whether the left side of a production is a name
abbrev pub has_name : NonterminalString → Production → Bool
has_name a p = bytes_eq p.nonterminal.text a.text

-- whether what a line says names a nonterminal
abbrev pub line_names : NonterminalString → Line → Bool
line_names a Blank = false
line_names a (production_line b symbols) = bytes_eq b.text a.text
line_names a (Inline b) = bytes_eq b.text a.text
line_names a Fault = false

-- whether a line names a nonterminal, as the left side of its production or as the one to be
-- inlined
abbrev pub names : NonterminalString → PlacedLine → Bool
names a l = line_names a l.line

-- the marks that a line gives a nonterminal: one if the line says that it is to be inlined
abbrev pub line_marks : NonterminalString → Line → List Attribute
line_marks a Blank = []
line_marks a (production_line b symbols) = []
line_marks a (Inline b) = if bytes_eq b.text a.text then inline_mark ∷ [] else []
line_marks a Fault = []

-- the marks of a nonterminal: one for each line that says that it is to be inlined
abbrev pub marks_in : NonterminalString → List PlacedLine → List Attribute
marks_in a lines = flat_map (λ (l : PlacedLine). line_marks a l.line) lines

-- the entry that lines give a name: its productions in the order of lines, its marks, and the span
-- of the first line that names it; there is no entry if no line names it
abbrev pub entry_of : NonterminalString → List PlacedLine → Option Entry
entry_of a lines = option_map (λ (first : PlacedLine). record { productions = filter (has_name a) (productions_in lines); attributes = marks_in a lines; span = first.span }) (find (names a) lines)

-- an entry with a production added, or a new entry with the production alone
abbrev pub with_production : Option Entry → Production → Option Entry
with_production None p = Some (record { productions = p ∷ []; attributes = []; span = p.span })
with_production (Some e) p = Some (record { productions = e.productions ++ p ∷ []; attributes = e.attributes; span = e.span })

-- an entry with a mark added, or a new entry with the mark alone
abbrev pub with_mark : Option Entry → Span → Option Entry
with_mark None span = Some (record { productions = []; attributes = inline_mark ∷ []; span = span })
with_mark (Some e) span = Some (record { productions = e.productions; attributes = e.attributes ++ inline_mark ∷ []; span = e.span })

-- the order of terminals, which is that of their type
abbrev pub terminal_cmp : TerminalString → TerminalString → Ordering
terminal_cmp = terminal.ghosts.cmp

-- the terminal that a symbol is, if it is one
abbrev pub terminal_of : Symbol → List TerminalString
terminal_of (Nonterminal a) = []
terminal_of (Terminal t) = t ∷ []

-- the terminals of a right side
abbrev pub terminals_of : List Symbol → List TerminalString
terminals_of symbols = flat_map terminal_of symbols

-- the terminals of the right sides of productions
abbrev pub terminals_in : List Production → List TerminalString
terminals_in productions = flat_map (λ (p : Production). terminals_of p.symbols) productions

-- the definition of each action: it is the user's, not fallible, and returns `()`
abbrev pub user_action : ActionFnDefn
user_action = record { fallible = false; ret_type = codes "()"; kind = User }

-- a list has the terminals of the right sides of lines, in ascending order and each once
pub record AreTerminalsOf (lines : List PlacedLine) (terminals : List TerminalString) : Type 0 where
  pub ascending : IsStrictlySortedBy terminal_cmp terminals
  pub found : (t : TerminalString) → Contains terminals t ↔ Contains (terminals_in (productions_in lines)) t

-- a grammar is the one that lines give: it has the entry of each name, the terminals of the right
-- sides, an action for each production, and no collapse to LALR
pub record StandsFor (lines : List PlacedLine) (grammar : Grammar) : Type 0 where
  pub ordered : IsOrdered name_cmp grammar.nonterminals
  pub entries : (a : NonterminalString) → option_map entry_view (get name_cmp grammar.nonterminals a) ≡ entry_of a lines
  pub terminals : AreTerminalsOf lines grammar.terminals
  pub actions : grammar.action_fn_defns.items ≡ map (λ _. user_action) (productions_in lines)
  pub algorithm : grammar.algorithm.lalr ≡ false
