-- The message for an input that is refused.
use Rattle.std.specs.Prelude.{ℕ, ◌+◌, Bool, List, [], ◌++◌, codes, slice_get, Option, None, Some, if◌then◌else◌}
use Rattle.std.specs.Fmt.{decimal}
use Rattle.std.specs.List.{flat_map}
use Rattle.lalrpop_base.specs.Words.{terminal_text}
use Rattle.lalrpop_grammar.specs.declared.repr.TerminalString.{TerminalString}
use Rattle.parse_pictures.specs.declared.expected.Expected.{Expected}

-- a terminal after a space
abbrev pub expected_text : TerminalString → List ℕ
expected_text t = codes " " ++ terminal_text t

-- the end of the input after a space, if it is expected
abbrev pub expected_end : Bool → List ℕ
expected_end is_expected = if is_expected then codes " Eof" else []

-- what is expected: the terminals, and then the end of the input
abbrev pub expected_words : Expected → List ℕ
expected_words expected = flat_map expected_text expected.terminals.items ++ expected_end expected.end

-- which token is wrong, if that at a place is, counted from 1, or that there is no token at it
abbrev pub wrong_token : ℕ → Option TerminalString → List ℕ
wrong_token count None = codes "the input ends too early"
wrong_token count (Some t) = codes "token " ++ (decimal (count + 1) ++ (codes ", " ++ (terminal_text t ++ codes ", is wrong")))

-- which token is wrong, after a number of others
abbrev pub place_text : List TerminalString → ℕ → List ℕ
place_text tokens count = wrong_token count (slice_get tokens count)

-- which token is wrong, and what is expected in its place
abbrev pub refusal_words : List TerminalString → ℕ → Expected → List ℕ
refusal_words tokens count expected = place_text tokens count ++ (codes "; expected:" ++ expected_words expected)
