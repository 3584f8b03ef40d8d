-- Packed rows, after the numbers of one more row were written over free cells.
use Rattle.std.proofs.Common.{◌≡◌, ◌≢◌, ◌⊎◌, ⊎_elim, inl, inr, ℕ, ◌+◌, ◌-◌, ◌<◌, ◌≤◌, cond, List, [], ◌∷◌, ◌++◌, length, length-append, slice_index, slice_get, Option, None, Some, refl, sym, ◌∙◌, ap, subst, arith, ne_eqb, eq-eqb}
use Rattle.std.proofs.lemmas.Bool.{cases_lt}
use Rattle.lalrpop_collections.proofs.theory.lists.Places.{push_cases, slice_get-append_before}
use Rattle.lalrpop_collections.proofs.theory.states.KernelLemmas.{slice_get-push_at}
use Rattle.parse_tables.specs.Cells.{AreColumns, AreOwned, AreOwners, IsFree, IsRowWritten, cell_in, number_in, owned}

-- a cell has no number for another owner
other_owner : (cell : ℕ × ℕ) (owner : ℕ) → cell.0 ≢ owner → owned owner cell ≡ 0
other_owner cell owner ne = ap (λ b. cond b cell.1 0) (ne_eqb cell.0 owner ne)

-- a cell has its number for its owner
own_number : (cell : ℕ × ℕ) (owner number : ℕ) → cell ≡ (owner, number) → owned owner cell ≡ number
own_number cell owner number e = ap (owned owner) e ∙ ap (λ b. cond b number 0) (eq-eqb owner owner refl)

module _ (owners owner start : ℕ) (next : owner ≡ owners + 1) (rows old mid new : List (ℕ × ℕ)) (row columns : List ℕ) (of_rows : AreOwners owners rows) (of_cells : AreOwned owners old) (listed : AreColumns row columns) (free : IsFree old columns start) (same : (k : ℕ) → cell_in mid k ≡ cell_in old k) (writes : IsRowWritten start owner row mid new) where
  -- a number of the row was written into the cell
  abbrev IsWritten : ℕ → Type 0
  IsWritten k = (column : ℕ) × (k ≡ start + column) × (slice_index row column ≢ 0)

  stays : (k : ℕ) → ((column : ℕ) → k ≡ start + column → slice_index row column ≡ 0) → cell_in new k ≡ cell_in old k
  stays k none = writes.kept k none ∙ same k

  -- a cell stays, or a number of the row was written into it
  change : (k : ℕ) → IsWritten k ⊎ (cell_in new k ≡ cell_in old k)
  change k = ⊎_elim before from (cases_lt k start)
    where
      before : k < start → IsWritten k ⊎ (cell_in new k ≡ cell_in old k)
      before l = inr (stays k (λ column e. absurd (omega (arith, l, e))))

      from : start ≤ k → IsWritten k ⊎ (cell_in new k ≡ cell_in old k)
      from l =
          let at : k ≡ start + (k - start) = omega (arith, l) in
          ⊎_elim
          (λ some. inl (k - start, at, λ none. omega (arith, some, none)))
          (λ none. inr (stays k (λ column e.
          let here : column ≡ k - start = omega (arith, e) in
          ap (slice_index row) here ∙ omega (arith, none))))
          (cases_lt 0 (slice_index row (k - start)))

  -- the owners of cells
  pub cells_owned : AreOwned owner new
  cells_owned k = ⊎_elim
      (λ w.
      let at : cell_in new k ≡ (owner, slice_index row w.0) = ap (cell_in new) w.1 ∙ writes.written w.0 w.2 in
      let own : (cell_in new k).0 ≡ owner = ap (λ (c : ℕ × ℕ). c.0) at in
      omega (arith, own))
      (λ e.
      let own : (cell_in new k).0 ≡ (cell_in old k).0 = ap (λ (c : ℕ × ℕ). c.0) e in
      let few = of_cells k in
      omega (arith, own, few, next))
      (change k)

  -- the owners of rows
  pub rows_owned : AreOwners owner (rows ++ (start, owner) ∷ [])
  rows_owned k r at = ⊎_elim
      (λ old_at.
      let held = of_rows k r old_at in
      let few = held.1 in
      (held.0, omega (arith, few, next)))
      (λ last.
      let own : owner ≡ r.1 = ap (λ (p : ℕ × ℕ). p.1) last.1 in
      (omega (arith, own, next), omega (arith, own)))
      (push_cases rows (start, owner) k r at)

  kept_in : (o : Option (ℕ × ℕ)) (r column : ℕ) → slice_get rows r ≡ o → number_in new o column ≡ number_in old o column
  kept_in None r column at = refl
  kept_in (Some p) r column at = ⊎_elim
      (λ w.
      let held = of_rows r p at in
      let some = held.0 in
      let few = held.1 in
      let k = p.0 + column in
      let now : cell_in new k ≡ (owner, slice_index row w.0) = ap (cell_in new) w.1 ∙ writes.written w.0 w.2 in
      let own : (cell_in new k).0 ≡ owner = ap (λ (c : ℕ × ℕ). c.0) now in
      let none : (cell_in old k).0 ≡ 0 = ap (λ n. (cell_in old n).0) w.1 ∙ free w.0 (listed w.0 w.2) in
      other_owner (cell_in new k) p.1 (λ e. omega (arith, e, own, few, next)) ∙ sym (other_owner (cell_in old k) p.1 (λ e. omega (arith, e, none, some))))
      (λ e. ap (owned p.1) e)
      (change (p.0 + column))

  -- the numbers of the earlier rows stay
  pub numbers_kept : (r column : ℕ) → r < length rows → number_in new (slice_get (rows ++ (start, owner) ∷ []) r) column ≡ number_in old (slice_get rows r) column
  numbers_kept r column l = ap (λ o. number_in new o column) (slice_get-append_before rows ((start, owner) ∷ []) r l) ∙ kept_in (slice_get rows r) r column refl

  last_number : (column : ℕ) → owned owner (cell_in new (start + column)) ≡ slice_index row column
  last_number column = ⊎_elim
      (λ some. own_number (cell_in new (start + column)) owner (slice_index row column) (writes.written column (λ none. omega (arith, some, none))))
      (λ none.
      let zero_here : slice_index row column ≡ 0 = omega (arith, none) in
      let e = stays (start + column) (λ other at. let here : other ≡ column = omega (arith, at) in ap (slice_index row) here ∙ zero_here) in
      let own : (cell_in new (start + column)).0 ≡ (cell_in old (start + column)).0 = ap (λ (c : ℕ × ℕ). c.0) e in
      let few = of_cells (start + column) in
      other_owner (cell_in new (start + column)) owner (λ at. omega (arith, at, own, few, next)) ∙ sym zero_here)
      (cases_lt 0 (slice_index row column))

  -- the last row has the numbers that were written
  pub numbers_added : (column : ℕ) → number_in new (slice_get (rows ++ (start, owner) ∷ []) (length rows)) column ≡ slice_index row column
  numbers_added column = ap (λ o. number_in new o column) (slice_get-push_at rows (start, owner)) ∙ last_number column

  -- the rows as they are kept: the start is known as a number of 32 bits
  module _ (first : ℕ) (pushed : List (ℕ × ℕ)) (at : first ≡ start) (push : pushed ≡ rows ++ (first, owner) ∷ []) where
    as_pushed : pushed ≡ rows ++ (start, owner) ∷ []
    as_pushed = push ∙ ap (λ n. rows ++ (n, owner) ∷ []) at

    pub pushed_owned : AreOwners owner pushed
    pushed_owned = subst (AreOwners owner) (sym as_pushed) rows_owned

    pub pushed_counted : length pushed ≡ length rows + 1
    pushed_counted = ap length push ∙ length-append rows ((first, owner) ∷ [])

    pub pushed_kept : (r column : ℕ) → r < length rows → number_in new (slice_get pushed r) column ≡ number_in old (slice_get rows r) column
    pushed_kept r column l = ap (λ xs. number_in new (slice_get xs r) column) as_pushed ∙ numbers_kept r column l

    pub pushed_added : (column : ℕ) → number_in new (slice_get pushed (length rows)) column ≡ slice_index row column
    pushed_added column = ap (λ xs. number_in new (slice_get xs (length rows)) column) as_pushed ∙ numbers_added column
