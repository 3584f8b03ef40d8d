use Rattle.std.proofs.Common.{ℕ, ◌<◌, slice_index}
use Rattle.packed_tables.specs.Packed.{HasGoto}
use Rattle.packed_tables.proofs.check.has_gotos.Given as goal

abbrev pub invariant-loop-nonterminal : goal.invariant-loop-nonterminal
invariant-loop-nonterminal l = (nonterminal : ℕ) → nonterminal < l.nonterminal → HasGoto l.packed l.state nonterminal (slice_index l.row nonterminal)
