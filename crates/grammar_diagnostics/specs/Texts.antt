-- The texts of reasons and hints.
use Rattle.std.specs.Prelude.{ℕ, List, ◌++◌, codes}
use Rattle.grammar_diagnostics.specs.declared.reason.Reason.{Reason}
use Rattle.grammar_diagnostics.specs.declared.reason.Reason.TheVariants as reason
use Rattle.grammar_diagnostics.specs.declared.hint.Hint.{Hint}
use Rattle.grammar_diagnostics.specs.declared.hint.Hint.TheVariants as hint
use Rattle.grammar_diagnostics.specs.Hints.{hint_of}
use Rattle.grammar_diagnostics.specs.TextErrors.{TextError}

-- a reason in words, which say something of the faulty word
abbrev pub reason_text : Reason → List ℕ
reason_text reason.NoLeftSide = codes "has no name before it"
reason_text reason.LeftSide = codes "is not a name"
reason_text reason.NoEquals = codes "has no \"=\" after it"
reason_text reason.NotEquals = codes "is in the place of \"=\""
reason_text reason.Mark = codes "is not a name"
reason_text reason.AfterMark = codes "is one word too many"
reason_text reason.EmptyLiteral = codes "is an empty literal"
reason_text reason.Symbol = codes "is neither a name nor a literal"

-- a hint in words
abbrev pub hint_text : Hint → List ℕ
hint_text hint.EmptyRight = codes "an empty right side is a line that ends with \"=\""
hint_text hint.Alternative = codes "write the alternative as a production on a line of its own"
hint_text hint.Equals = codes "write \"=\" between the left side and the right side"
hint_text hint.Blanks = codes "write blanks around \"=\""
hint_text hint.End = codes "leave the end sign out, a production ends with its line"
hint_text hint.Comma = codes "separate symbols by blanks alone"
hint_text hint.Comment = codes "leave the comment out, there are no comments"
hint_text hint.DoubleQuotes = codes "write a literal between double quotes"
hint_text hint.CurlyQuotes = codes "write straight double quotes"
hint_text hint.Literal = codes "a literal ends with a quote, and has no blank and no quote in it"
hint_text hint.Directive = codes "leave it out, there are no directives"
hint_text hint.ByteOrderMark = codes "save the file without a byte order mark"
hint_text hint.Repetition = codes "write the repetition as productions of a nonterminal"
hint_text hint.Group = codes "write the group as a nonterminal of its own"
hint_text hint.Hyphen = codes "write \"_\" and not \"-\" in a name"
hint_text hint.Name = codes "a name has ASCII letters, digits and \"_\", and begins with no digit"
hint_text hint.Symbol = codes "a symbol is a name, or a literal between double quotes"
hint_text hint.Production = codes "a production is a name, \"=\" and symbols"
hint_text hint.Mark = codes "a mark is \"inline\" and one name"

-- an error in words, without its hint: its word between backquotes, and what is wrong with the word
abbrev pub fault_text : TextError → List ℕ
fault_text e = codes "`" ++ (e.word ++ (codes "` " ++ reason_text e.reason))

-- an error in words: its word between backquotes, what is wrong with the word, and the hint
abbrev pub error_text : TextError → List ℕ
error_text e = codes "`" ++ e.word ++ codes "` " ++ reason_text e.reason ++ codes "; " ++ hint_text (hint_of e.reason e.word)
