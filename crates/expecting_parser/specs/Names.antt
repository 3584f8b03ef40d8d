-- The names of tokens in a message.
use Rattle.std.specs.Prelude.{ℕ, zero, suc, List, [], ◌∷◌, ◌++◌, length, codes}
use Rattle.lalrpop_base.specs.Words.{terminal_text}
use Rattle.lalrpop_grammar.specs.declared.lookahead.token.Token.{Token}
use Rattle.lalrpop_grammar.specs.declared.lookahead.token.Token.TheVariants.{Eof, Error as ErrorToken, Terminal as TokenOf}

-- the name of a token: a terminal as it prints, and the end of the input
abbrev pub name_text : Token → List ℕ
name_text Eof = codes "end of input"
name_text ErrorToken = codes "Error"
name_text (TokenOf t) = terminal_text t

-- what is after a name, if so many names come after it
abbrev pub separator : ℕ → List ℕ
separator zero = []
separator (suc zero) = codes " or "
separator (suc (suc more)) = codes ", "

-- names in one text: commas between them, and `or` before the last
abbrev pub listed : List (List ℕ) → List ℕ
listed [] = []
listed (name ∷ names) = name ++ (separator (length names) ++ listed names)
