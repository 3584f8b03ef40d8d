use Rattle.std.proofs.Common.{refl}
use Rattle.lalrpop_grammar.proofs.laws.orders.Goals as goal

pub returns-clause-terminals : goal.returns-clause-terminals
returns-clause-terminals c = record { literals = λ _ _. refl; bares = λ _ _. refl; errors = refl; literal_bare = λ _ _. refl; literal_error = λ _. refl; bare_error = λ _. refl }

pub returns-clause-symbols : goal.returns-clause-symbols
returns-clause-symbols c = record { nonterminals = λ _ _. refl; terminals = λ _ _. refl; across = λ _ _. refl }

pub returns-clause-tokens : goal.returns-clause-tokens
returns-clause-tokens c = record { ends = refl; errors = refl; terminals = λ _ _. refl; end_error = refl; end_terminal = λ _. refl; error_terminal = λ _. refl }

pub returns-clause-productions : goal.returns-clause-productions
returns-clause-productions c p q = refl
