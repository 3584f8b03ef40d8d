-- The types that proofs name.
pub use Rattle.lalrpop_grammar.specs.declared.lookahead.token.Token.{Token}
pub use Rattle.lalrpop_grammar.specs.declared.repr.NonterminalString.{NonterminalString}
pub use Rattle.lalrpop_grammar.specs.declared.repr.Production.{Production}
pub use Rattle.lalrpop_grammar.specs.declared.repr.Symbol.{Symbol}
pub use Rattle.lalrpop_grammar.specs.declared.repr.TerminalString.{TerminalString}
pub use Rattle.lalrpop_grammar.specs.declared.repr.grammar.Grammar.{Grammar}
pub use Rattle.lalrpop_states.specs.declared.lookahead.nil.Nil.{Nil}
pub use Rattle.lalrpop_states.specs.declared.lr1_core.state.BuildError.{BuildError}
pub use Rattle.lalrpop_states.specs.declared.lr1_core.state.Conflict.{Conflict}
pub use Rattle.lalrpop_states.specs.declared.lr1_core.state.State.{State}
pub use Rattle.lalrpop_states.specs.declared.lr1_core.state.StateIndex.{StateIndex}
