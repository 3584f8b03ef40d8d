-- The transitions of states, by numbers of symbols and of kernels.
use Rattle.std.specs.Prelude.{◌<◌, ℕ, List, [], ◌∷◌, length, map, Option, None, Contains}
use mathlib.Core.Logic.{inl}
use Rattle.std.specs.List.{flat_map}
use Rattle.std_collections.specs.Layout.BTreeMap.{btree_map}
use Rattle.lalrpop_base.specs.Words.{Entries, symbol_at}
use Rattle.lalrpop_grammar.specs.declared.repr.NonterminalString.{NonterminalString}
use Rattle.lalrpop_grammar.specs.declared.repr.Symbol.{Symbol}
use Rattle.lalrpop_grammar.specs.declared.repr.Symbol.TheVariants.{Nonterminal, Terminal}
use Rattle.lalrpop_grammar.specs.declared.repr.TerminalString.{TerminalString}
use Rattle.lalrpop_grammar.specs.grammars.TerminalPlaces.{place_in}
use Rattle.lalrpop_states.specs.declared.lr1_core.state.StateIndex.{StateIndex}
use Rattle.lalrpop_states.specs.declared.lr1_core.transitions.Transitions.{Transitions}

-- a list with the shift to the target if the symbol is a terminal, and otherwise an empty list
abbrev pub shift_over : Symbol → StateIndex → List (TerminalString × StateIndex)
shift_over (Terminal t) target = (t, target) ∷ []
shift_over (Nonterminal a) target = []

-- a list with the goto to the target if the symbol is a nonterminal, and otherwise an empty list
abbrev pub goto_over : Symbol → StateIndex → List (NonterminalString × StateIndex)
goto_over (Terminal t) target = []
goto_over (Nonterminal a) target = (a, target) ∷ []

-- the same of an edge, which is the number of a symbol with the number of a kernel
abbrev pub shift_at : List Symbol → ℕ × ℕ → List (TerminalString × StateIndex)
shift_at symbols e = shift_over (symbol_at symbols e.0) (record { 0 = e.1 })

abbrev pub goto_at : List Symbol → ℕ × ℕ → List (NonterminalString × StateIndex)
goto_at symbols e = goto_over (symbol_at symbols e.0) (record { 0 = e.1 })

-- the shifts among edges
abbrev pub shifts_in : List Symbol → List (ℕ × ℕ) → List (TerminalString × StateIndex)
shifts_in symbols edges = flat_map (shift_at symbols) edges

-- the gotos among edges
abbrev pub gotos_in : List Symbol → List (ℕ × ℕ) → List (NonterminalString × StateIndex)
gotos_in symbols edges = flat_map (goto_at symbols) edges

-- the entries of the edges
abbrev pub entries_of : List Symbol → List (ℕ × ℕ) → Entries
entries_of symbols edges = record { shifts = shifts_in symbols edges; gotos = gotos_in symbols edges }

-- the edges as maps
abbrev pub edges_in : List Symbol → List (ℕ × ℕ) → Transitions
edges_in symbols edges = record { shifts = btree_map (shifts_in symbols edges) (inl tt); gotos = btree_map (gotos_in symbols edges) (inl tt) }

-- each edge has the number of a symbol
abbrev pub AreOverSymbols : List Symbol → List (ℕ × ℕ) → Type 0
AreOverSymbols symbols edges = (e : ℕ × ℕ) → Contains edges e → e.0 < length symbols

-- the bit of the terminal that the symbol is; a nonterminal has none
abbrev pub bit_of : List TerminalString → Symbol → Option ℕ
bit_of terminals (Terminal t) = place_in terminals t
bit_of terminals (Nonterminal a) = None

-- the bit of each symbol
abbrev pub bits_of : List TerminalString → List Symbol → List (Option ℕ)
bits_of terminals symbols = map (bit_of terminals) symbols
