use Rattle.std.proofs.Common.{◌≡◌, ◌++◌, ℕ, List, map}
use Rattle.std.specs.Fmt.{WritesInCalls}
use Rattle.lalrpop_base.specs.Words.{token_of}
use Rattle.lalrpop_report.specs.Words.{tokens_in, tokens_text}
use Rattle.lalrpop_report.proofs.report.printer.TokenSetLookaheadPrinter.print.Given as goal

-- the text so far, and that of the tokens that are left, is the text of all
abbrev pub invariant-loop-token : goal.invariant-loop-token
invariant-loop-token g l =
    (done : List ℕ) × WritesInCalls g.W.Write.write_str_gives l.initial.out done l.out
    × (done ++ tokens_text (map (token_of l.token-iterator.terminals.now) l.token-iterator.bits) ≡ tokens_text (tokens_in l.terminals l.self))
