-- Which transition is at which place, if transitions ascend by their symbols.
use Rattle.std.proofs.Common.{◌≡◌, inl, inr, ℕ, ◌+◌, ◌<◌, ◌≤◌, List, length, get_or, sym, ap, arith, ◌∙◌, Some}
use Rattle.std.specs.Prelude.{slice_get, Contains}
use Rattle.std.proofs.lemmas.Option.{slice_get-get_or}
use Rattle.lalrpop_construction.specs.states.NumberedStates.{EdgesAscend}
use Rattle.lalrpop_collections.proofs.theory.lists.Members.{place}
use Rattle.lalrpop_collections.proofs.theory.lists.Places.{places_apart, same_some}

module _ (edges : List (ℕ × ℕ)) (ascend : EdgesAscend edges) (middle : ℕ) (within : middle < length edges) where
  abbrev read : ℕ × ℕ
  read = get_or edges middle (0, 0)

  at_middle : slice_get edges middle ≡ Some read
  at_middle = slice_get-get_or edges middle (0, 0) within

  here : (k x m : ℕ) → k ≡ middle → slice_get edges k ≡ Some (x, m) → read.0 ≡ x
  here k x m e at = ap (λ (p : ℕ × ℕ). p.0) (same_some read (x, m) (sym at_middle ∙ ap (slice_get edges) (sym e) ∙ at))

  -- up to the place no symbol is greater than the one at the place
  pub rises_to : (k x m : ℕ) → k < middle + 1 → slice_get edges k ≡ Some (x, m) → x ≤ read.0
  rises_to k x m l at = elim (places_apart k middle) [
    | inl less ↦ let before : x < read.0 = ascend k middle (x, m) read less at at_middle in omega arith
    | inr other ↦ elim other [
      | inl greater ↦ absurd (omega arith)
      | inr same ↦ let e : read.0 ≡ x = here k x m same at in omega arith
    ]
  ]

  -- from the place on no symbol is less than the one at the place
  pub rises_from : (k x m : ℕ) → middle ≤ k → slice_get edges k ≡ Some (x, m) → read.0 ≤ x
  rises_from k x m l at = elim (places_apart middle k) [
    | inl less ↦ let behind : read.0 < x = ascend middle k read (x, m) less at_middle at in omega arith
    | inr other ↦ elim other [
      | inl greater ↦ absurd (omega arith)
      | inr same ↦ let e : read.0 ≡ x = here k x m (sym same) at in omega arith
    ]
  ]

  -- the transition at the place is one over the symbol that is read there
  pub read_found : (symbol : ℕ) → read.0 ≡ symbol → (target : ℕ) × (slice_get edges middle ≡ Some (symbol, target))
  read_found symbol e = (read.1, at_middle ∙ ap (λ (x : ℕ). Some (x, read.1)) e)

module _ (edges : List (ℕ × ℕ)) (low symbol : ℕ) (below : (k x m : ℕ) → k < low → slice_get edges k ≡ Some (x, m) → x < symbol) where
  -- there is no transition over a symbol that is greater than all
  pub none_behind : length edges ≤ low → (target : ℕ) → Contains edges (symbol, target) → ⊥
  none_behind end target c =
      let p = place edges (symbol, target) c in
      let less : symbol < symbol = below p.0 symbol target (omega (arith, p.1)) p.2 in
      absurd (omega arith)

  -- there is no transition over a symbol that is not at the first place from which on no symbol is
  -- less
  pub none_between : EdgesAscend edges → low < length edges → ((k x m : ℕ) → low ≤ k → slice_get edges k ≡ Some (x, m) → symbol ≤ x) → ((get_or edges low (0, 0)).0 ≡ symbol → ⊥) → (target : ℕ) → Contains edges (symbol, target) → ⊥
  none_between ascend within above other target c =
      let p = place edges (symbol, target) c in
      let read = get_or edges low (0, 0) in
      let up : symbol ≤ read.0 = above low read.0 read.1 (omega arith) (slice_get-get_or edges low (0, 0) within) in
      elim (places_apart p.0 low) [
        | inl less ↦ let l : symbol < symbol = below p.0 symbol target less p.2 in absurd (omega arith)
        | inr behind ↦
            let from : low ≤ p.0 = elim behind [ inl greater ↦ omega arith | inr same ↦ omega arith ] in
            let down : read.0 ≤ symbol = rises_from edges ascend low within p.0 symbol target from p.2 in
            other (omega arith)
      ]
