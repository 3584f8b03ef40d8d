use Rattle.std.proofs.Common.{◌≡◌, []}
use Rattle.parse_calls.specs.Expected.{expected_from}
use Rattle.parse_calls.proofs.expected.list_expected.Given as goal

-- the tokens that are left to try, after those that were found, give the whole answer
abbrev pub invariant-loop-token : goal.invariant-loop-token
invariant-loop-token l = expected_from l.tables l.machine.left l.machine.stack.items l.end l.token l.tokens.items ≡ expected_from l.tables l.machine.left l.machine.stack.items l.end 0 []
