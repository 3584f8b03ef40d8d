-- The types of base that proofs name.
pub use Rattle.lalrpop_grammar.specs.declared.lookahead.token.Token.{Token}
pub use Rattle.lalrpop_states.specs.declared.lr1_core.state.Conflict.{Conflict}
pub use Rattle.lalrpop_grammar.specs.declared.repr.TerminalString.{TerminalString}
