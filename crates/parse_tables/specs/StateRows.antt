-- Packed rows of the actions and gotos of states.
use Rattle.std.specs.Prelude.{◌≡◌, ℕ, List, slice_get, Some}
use Rattle.lalrpop_base.specs.Words.{CanStandNext, Contents, IsBitOf, action_on}
use Rattle.lalrpop_grammar.specs.declared.lookahead.token.Token.{Token}
use Rattle.lalrpop_grammar.specs.declared.repr.NonterminalString.{NonterminalString}
use Rattle.lalrpop_grammar.specs.declared.repr.Production.{Production}
use Rattle.lalrpop_grammar.specs.declared.repr.TerminalString.{TerminalString}
use Rattle.parse_tables.specs.Codes.{entry_of, target_of}
use Rattle.parse_tables.specs.Rows.{number_at}
use Rattle.parse_tables.specs.declared.rows.Rows.{Rows}

-- the row of each state has its action on each token that can be next
abbrev pub HaveActions : List TerminalString → List Production → (ℕ → Contents) → Rows → Type 0
HaveActions terminals productions states rows = (state bit : ℕ) (token : Token) → CanStandNext token → IsBitOf terminals token bit → entry_of productions (number_at rows state bit) ≡ action_on (states state) token

-- the row of each state has its goto on each nonterminal
abbrev pub HaveGotos : List NonterminalString → (ℕ → Contents) → Rows → Type 0
HaveGotos names states rows = (state number : ℕ) (name : NonterminalString) → slice_get names number ≡ Some name → target_of (number_at rows state number) ≡ (states state).goto name
