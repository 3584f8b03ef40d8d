-- The edges of a state, in order.
use Rattle.std.specs.Prelude.{List, ◌++◌, map}
use Rattle.lalrpop_states.specs.states.Coherent.{symbol_of_ref}
use Rattle.lalrpop_grammar.specs.declared.repr.NonterminalString.{NonterminalString}
use Rattle.lalrpop_grammar.specs.declared.repr.TerminalString.{TerminalString}
use Rattle.lalrpop_grammar.specs.declared.repr.Symbol.{Symbol}
use Rattle.lalrpop_grammar.specs.declared.repr.Symbol.TheVariants.{Nonterminal, Terminal}
use Rattle.lalrpop_states.specs.declared.lr1_core.coherent.SymbolRef.{SymbolRef}
use Rattle.lalrpop_states.specs.declared.lr1_core.state.StateIndex.{StateIndex}

-- an edge of a state: a symbol, and the state to which it leads
abbrev pub StateEdge : Type 0
StateEdge = Symbol × StateIndex

-- a shift, as an edge
abbrev pub shift_edge : TerminalString × StateIndex → StateEdge
shift_edge e = (Terminal e.0, e.1)

-- a goto, as an edge
abbrev pub goto_edge : NonterminalString × StateIndex → StateEdge
goto_edge e = (Nonterminal e.0, e.1)

-- the edges of a list of shifts, and then those of a list of gotos
abbrev pub state_edges : List (TerminalString × StateIndex) → List (NonterminalString × StateIndex) → List StateEdge
state_edges shifts gotos = map shift_edge shifts ++ map goto_edge gotos

-- the edge that an edge with a borrowed symbol means
abbrev pub seen_edge : SymbolRef × StateIndex → StateEdge
seen_edge e = (symbol_of_ref e.0, e.1)
