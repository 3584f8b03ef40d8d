use Rattle.std.proofs.Common.{◌≡◌, ◌+◌, ℕ, List, drop}
use Rattle.lalrpop_construction.specs.canonical.CanonicalAnswers.{up_to_greatest}
use Rattle.lalrpop_grammar.specs.declared.repr.TerminalString.{TerminalString}
use Rattle.canonical_by_number.specs.Conflicts.{shift_conflicts_of}
use Rattle.canonical_by_number.specs.Edges.{bits_of}
use Rattle.canonical_by_number.proofs.conflicts.add_shift_conflicts.Given as goal

-- the count has those of the edges so far
abbrev pub invariant-loop-edge : goal.invariant-loop-edge
invariant-loop-edge l = (terminals : List TerminalString) → l.bits ≡ bits_of terminals l.numbers.symbols.items → (n : ℕ) → l.old ≡ up_to_greatest n → (m : ℕ) × (l.count ≡ up_to_greatest (n + m)) × (m + shift_conflicts_of l.numbers l.sets terminals l.finished (drop l.edge-index l.edges) ≡ shift_conflicts_of l.numbers l.sets terminals l.finished l.edges)
