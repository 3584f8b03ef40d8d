use Rattle.std.proofs.Common.{◌≡◌, length}
use Rattle.grammar_text.proofs.Reading.{IsRead}
use Rattle.grammar_text.proofs.grammar.collected_of.Given as goal

-- the lines so far are read
abbrev pub invariant-loop-line : goal.invariant-loop-line
invariant-loop-line l = (l.number ≡ length l.yielded) × IsRead l.text l.number l.at l.so_far
