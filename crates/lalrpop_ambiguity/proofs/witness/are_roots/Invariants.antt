use Rattle.std.proofs.Common.{◌≡◌, ◌↔◌, drop}
use Rattle.lalrpop_ambiguity.specs.Words.{roots_of}
use Rattle.lalrpop_ambiguity.proofs.witness.are_roots.Given as goal

-- the symbols are at the roots exactly if those that are left are
abbrev pub invariant-loop-place : goal.invariant-loop-place
invariant-loop-place l =
    (drop l.place l.symbols ≡ roots_of (drop l.place l.trees.items)) ↔ (l.symbols ≡ roots_of l.trees.items)
