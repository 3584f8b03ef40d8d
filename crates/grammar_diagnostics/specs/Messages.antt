-- Warnings in words.
use Rattle.std.specs.Prelude.{ℕ, List, ◌++◌, Option, None, Some, codes}
use Rattle.std.specs.Borrow.{Bor}
use Rattle.std.specs.Fmt.{decimal}
use Rattle.lalrpop_grammar.specs.declared.repr.NonterminalString.{NonterminalString}
use Rattle.grammar_diagnostics.specs.Places.{line_at}
use Rattle.grammar_diagnostics.specs.Warnings.{Doubt, Undefined, Unreachable, Unproductive, Cyclic, NothingToInline, NeverInlined, Repeated, NoStart, StartUsed}

-- the name to which a reference refers
abbrev pub name_now : Bor NonterminalString → NonterminalString
name_now name = name.now

-- what is doubtful, in words, for a text and a start symbol
abbrev pub doubt_text : List ℕ → NonterminalString → Doubt → List ℕ
doubt_text text start (Undefined a p) = codes "`" ++ (a.text ++ codes "` has no production")
doubt_text text start (Unreachable a span) = codes "`" ++ (a.text ++ (codes "` is in no list that `" ++ (start.text ++ codes "` derives")))
doubt_text text start (Unproductive a span) = codes "`" ++ (a.text ++ codes "` derives no list of terminals")
doubt_text text start (Cyclic a span) = codes "`" ++ (a.text ++ codes "` derives itself")
doubt_text text start (NothingToInline a span) = codes "`" ++ (a.text ++ codes "` is to be inlined and has no production")
doubt_text text start (NeverInlined a span) = codes "`" ++ (a.text ++ codes "` is to be inlined and is on no right side")
doubt_text text start (Repeated later first) = codes "the right side is that of line " ++ decimal (line_at text first.span.0)
doubt_text text start NoStart = codes "`" ++ (start.text ++ codes "` has no production")
doubt_text text start (StartUsed p) = codes "`" ++ (start.text ++ codes "` is on a right side")

-- the usual way out of a doubt
abbrev pub usual_way_out : Doubt → List ℕ
usual_way_out (Undefined a p) = codes "write one, or mend the name"
usual_way_out (Unreachable a span) = codes "use it, or leave it out"
usual_way_out (Unproductive a span) = codes "write a production without it"
usual_way_out (Cyclic a span) = codes "leave out the production that leads back"
usual_way_out (NothingToInline a span) = codes "write one"
usual_way_out (NeverInlined a span) = codes "leave the mark out"
usual_way_out (Repeated later first) = codes "leave one of the two out"
usual_way_out NoStart = codes "name another start symbol"
usual_way_out (StartUsed p) = codes "add a start symbol that is on none"

-- the way out of a doubt: the name that may be meant, if there is one, and else the usual way out
abbrev pub way_out : Option NonterminalString → Doubt → List ℕ
way_out None w = usual_way_out w
way_out (Some other) w = codes "perhaps `" ++ (other.text ++ codes "` is meant")

-- a warning in words, for a text, a start symbol, and a name that may be meant
abbrev pub message : List ℕ → NonterminalString → Option NonterminalString → Doubt → List ℕ
message text start near w = doubt_text text start w ++ (codes "; " ++ way_out near w)
