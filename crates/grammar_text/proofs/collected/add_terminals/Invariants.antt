use Rattle.std.proofs.Common.{◌≡◌, ◌||◌, drop}
use Rattle.std.specs.List.{list_any}
use Rattle.std.specs.BTreeSet.{contains}
use Rattle.lalrpop_grammar.specs.declared.repr.TerminalString.{TerminalString}
use Rattle.grammar_text.specs.Grammar.{terminal_cmp, terminals_of}
use Rattle.grammar_text.specs.Collected.{is_same}
use Rattle.grammar_text.proofs.collected.add_terminals.Given as goal

-- the terminals so far, and those of the symbols that are left
abbrev pub invariant-loop-symbol : goal.invariant-loop-symbol
invariant-loop-symbol l = (t : TerminalString) →
    (contains terminal_cmp l.terminals t || list_any (λ x. is_same x t) (terminals_of (drop l.symbol-index l.symbols)))
    ≡ (contains terminal_cmp l.initial.terminals t || list_any (λ x. is_same x t) (terminals_of l.symbols))
