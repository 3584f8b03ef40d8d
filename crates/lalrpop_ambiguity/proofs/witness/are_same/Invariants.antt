use Rattle.std.proofs.Common.{◌≡◌, ◌↔◌, drop}
use Rattle.lalrpop_ambiguity.specs.Words.{symbols_at}
use Rattle.lalrpop_ambiguity.proofs.witness.are_same.Given as goal

-- the lists are the same exactly if what is left of them is
abbrev pub invariant-loop-place : goal.invariant-loop-place
invariant-loop-place l =
    (symbols_at (drop l.place l.symbols.items) ≡ symbols_at (drop l.place l.others.items)) ↔ (symbols_at l.symbols.items ≡ symbols_at l.others.items)
