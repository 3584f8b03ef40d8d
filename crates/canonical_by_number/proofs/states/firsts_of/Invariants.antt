use Rattle.std.proofs.Common.{◌≡◌, ◌<◌, ℕ, Some, length}
use Rattle.std.specs.Prelude.{slice_get}
use Rattle.lalrpop_numbers.specs.declared.numbers.suffixes.Suffix.{Suffix}
use Rattle.canonical_by_number.specs.TokenSets.{KeepsNumbers}
use Rattle.canonical_by_number.specs.Closures.{IsNumberAt}
use Rattle.canonical_by_number.proofs.states.firsts_of.Given as goal

abbrev pub invariant-loop-suffix : goal.invariant-loop-suffix
invariant-loop-suffix l = record {
  kept : KeepsNumbers l.fn.sets l.sets;
  counted : length l.firsts.items ≡ l.suffix-index;
  each : (k : ℕ) (suffix : Suffix) → k < l.suffix-index → slice_get l.numbers.suffixes.items k ≡ Some (Some suffix) → IsNumberAt l.sets l.firsts.items k suffix.first;
}
