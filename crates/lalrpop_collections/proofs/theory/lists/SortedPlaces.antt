-- Places in a strictly ascending list.
use Rattle.std.proofs.Common.{◌≡◌, ◌∙◌, ℕ, ◌<◌, List, length, sym, ap}
use Rattle.std.specs.Prelude.{slice_get, get_or, Some}
use Rattle.std.specs.declared.cmp.Ordering.{Ordering}
use Rattle.std.specs.declared.cmp.Ordering.TheVariants.{Less}
use Rattle.std.specs.List.Sorted.{IsStrictlySortedBy}
use Rattle.std.proofs.lemmas.Map.Keys.{Less-from_sorted}
use Rattle.std.proofs.lemmas.Option.{get_or_from_slice_get, slice_get_within}

-- each value is less than those after it
pub Sorted-places : {K : Type 0} (R : K → K → Ordering) (xs : List K) → IsStrictlySortedBy R xs → (i j : ℕ) (x y : K) → i < j → slice_get xs i ≡ Some x → slice_get xs j ≡ Some y → R x y ≡ Less
Sorted-places {K} R xs sorted i j x y l at_i at_j =
    let within : j < length xs = slice_get_within xs j y at_j in
    let read : R (get_or xs i x) (get_or xs j x) ≡ Less = Less-from_sorted R xs i j x sorted l within in
    ap (λ (z : K). R z y) (sym (get_or_from_slice_get xs i x x at_i)) ∙ ap (λ (z : K). R (get_or xs i x) z) (sym (get_or_from_slice_get xs j y x at_j)) ∙ read
