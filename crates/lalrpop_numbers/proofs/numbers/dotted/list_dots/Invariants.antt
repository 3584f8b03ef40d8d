use Rattle.std.proofs.Common.{◌≡◌, List}
use Rattle.std.specs.List.{flat_map}
use Rattle.lalrpop_states.specs.Words.{Dotted}
use Rattle.lalrpop_numbers.specs.Words.{all_dots}
use Rattle.lalrpop_numbers.proofs.Types.{Nil}
use Rattle.lalrpop_collections.proofs.theory.lists.EachLemmas.{HoldsSoFar}
use Rattle.lalrpop_numbers.proofs.numbers.dotted.list_dots.Given as goal

abbrev pub invariant-loop-start : goal.invariant-loop-start
invariant-loop-start l = HoldsSoFar (λ (ks : List (Dotted Nil)). l.items.items ≡ flat_map all_dots ks) l.start-iterator l.fn.starts.keys
