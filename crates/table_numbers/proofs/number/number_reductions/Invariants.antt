use Rattle.std.proofs.Common.{◌≡◌, map, take}
use Rattle.table_numbers.specs.Numbered.{Keeps, reduction_at, reduction_parts}
use Rattle.table_numbers.proofs.number.number_reductions.Given as goal

abbrev pub invariant-loop-tokens : goal.invariant-loop-tokens
invariant-loop-tokens l = record {
  done : map (reduction_at l.productions l.sets) l.pairs ≡ map reduction_parts (take l.tokens-index l.reductions);
  kept : Keeps l.fn.sets l.sets;
}
