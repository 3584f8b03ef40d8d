use Rattle.std.proofs.Common.{◌≡◌, ℕ, ◌<◌, ◌≤◌, false, List}
use Rattle.lalrpop_base.specs.Words.{has}
use Rattle.lalrpop_grammar.specs.declared.repr.TerminalString.{TerminalString}
use Rattle.table_parser.specs.Expected.{HasReadList, MayFollow}
use Rattle.table_parser.proofs.machine.Machine.expected.Given as goal

abbrev pub invariant-loop-bit : goal.invariant-loop-bit
invariant-loop-bit l = record {
  before : (w : List TerminalString) → HasReadList l.self w → (k : ℕ) → k < l.bit → MayFollow l.self w k (has l.tokens k);
  later : (k : ℕ) → l.bit ≤ k → has l.tokens k ≡ false;
}
