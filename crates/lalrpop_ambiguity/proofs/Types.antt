-- The types that proofs name.
pub use Rattle.lalrpop_grammar.specs.declared.repr.NonterminalString.{NonterminalString}
pub use Rattle.lalrpop_grammar.specs.declared.repr.Production.{Production}
pub use Rattle.lalrpop_grammar.specs.declared.repr.Symbol.{Symbol}
pub use Rattle.lalrpop_grammar.specs.declared.repr.TerminalString.{TerminalString}
