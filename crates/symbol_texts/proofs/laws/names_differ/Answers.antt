use Rattle.symbol_texts.proofs.NamesDiffer.{nonterminals_differ, productions_differ, terminals_differ}
use Rattle.symbol_texts.proofs.laws.names_differ.Goals as goal

pub returns-clause-terminals : goal.returns-clause-terminals
returns-clause-terminals c = terminals_differ

pub returns-clause-nonterminals : goal.returns-clause-nonterminals
returns-clause-nonterminals c = nonterminals_differ

pub returns-clause-productions : goal.returns-clause-productions
returns-clause-productions c = productions_differ
