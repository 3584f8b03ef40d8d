-- What the outcome of a parse says of a grammar.
use Rattle.std.specs.Prelude.{List}
use Rattle.lalrpop_base.specs.Words.{Outcome, Parsed, Refused, Limit, IsFirstWrong, IsParseTree}
use Rattle.lalrpop_grammar.specs.declared.repr.NonterminalString.{NonterminalString}
use Rattle.lalrpop_grammar.specs.declared.repr.Production.{Production}
use Rattle.lalrpop_grammar.specs.declared.repr.TerminalString.{TerminalString}

-- what an outcome says of a grammar: a tree is a parse tree, and a refusal names the first wrong
-- token
abbrev pub SaysOfGrammar : List Production → NonterminalString → List TerminalString → Outcome → Type 0
SaysOfGrammar g start tokens (Parsed t) = IsParseTree g start tokens t
SaysOfGrammar g start tokens (Refused n token) = IsFirstWrong g start tokens token
SaysOfGrammar g start tokens Limit = Unit {0}
