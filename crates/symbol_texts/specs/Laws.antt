-- Theorems on names, which the function of `laws.rt` states.
use Rattle.std.specs.Prelude.{ℕ, ◌<◌, ◌^◌, List, length}
use Rattle.symbol_texts.specs.Differ.{Differ}
use Rattle.symbol_texts.specs.Names.{nonterminal_names, production_names, terminal_names}
use Rattle.symbol_texts.specs.declared.grammar.ProductionText.{ProductionText}
use Rattle.symbol_texts.specs.declared.style.Style.{Style}

-- the names of terminals and of the end of the input differ, whatever texts the terminals have
abbrev pub TerminalsDiffer : Type 0
TerminalsDiffer = (style : Style) (terminals : List (List ℕ)) → length terminals < 2 ^ 64 → Differ (terminal_names style terminals)

-- the names of nonterminals differ
abbrev pub NonterminalsDiffer : Type 0
NonterminalsDiffer = (style : Style) (nonterminals : List (List ℕ)) → length nonterminals < 2 ^ 64 → Differ (nonterminal_names style nonterminals)

-- the names of productions differ
abbrev pub ProductionsDiffer : Type 0
ProductionsDiffer = (style : Style) (productions : List ProductionText) → length productions < 2 ^ 64 → Differ (production_names style productions)
