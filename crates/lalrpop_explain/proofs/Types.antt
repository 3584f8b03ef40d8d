-- The types that proofs name.
pub use Rattle.lalrpop_grammar.specs.declared.repr.Production.{Production}
pub use Rattle.lalrpop_grammar.specs.declared.repr.TerminalString.{TerminalString}
pub use Rattle.lalrpop_grammar.specs.declared.repr.grammar.Grammar.{Grammar}
pub use Rattle.lalrpop_states.specs.declared.lookahead.nil.Nil.{Nil}
pub use Rattle.lalrpop_states.specs.declared.lr1_core.state.Action.{Action}
pub use Rattle.lalrpop_states.specs.declared.lr1_core.state.Conflict.{Conflict}
pub use Rattle.lalrpop_states.specs.declared.lr1_core.state.State.{State}
pub use Rattle.lalrpop_states.specs.declared.lr1_core.state.StateIndex.{StateIndex}
pub use Rattle.lalrpop_states.specs.declared.lr1_core.state.TableConstructionError.{TableConstructionError}
pub use Rattle.lalrpop_traces.specs.declared.trace.enumerator.PathEnumerator.{PathEnumerator}
pub use Rattle.lalrpop_traces.specs.declared.trace.example.Example.{Example}
pub use Rattle.lalrpop_traces.specs.declared.trace.filtered.FilteredPathEnumerator.{FilteredPathEnumerator}
pub use Rattle.lalrpop_traces.specs.declared.trace.trace_graph.TraceGraphEdge.{TraceGraphEdge}
