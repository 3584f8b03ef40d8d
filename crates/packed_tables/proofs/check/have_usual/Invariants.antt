use Rattle.std.proofs.Common.{ℕ, ◌<◌}
use Rattle.packed_tables.specs.Packed.{IsUsual}
use Rattle.packed_tables.proofs.check.have_usual.Given as goal

abbrev pub invariant-loop-nonterminal : goal.invariant-loop-nonterminal
invariant-loop-nonterminal l = (nonterminal : ℕ) → nonterminal < l.nonterminal → IsUsual l.usual l.gotos nonterminal
