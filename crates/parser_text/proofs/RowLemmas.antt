-- Rows of states, while they are listed.
use Rattle.std.proofs.Common.{◌≡◌, ⊎_elim, ℕ, ◌+◌, ◌<◌, ◌≤◌, List, [], ◌∷◌, ◌++◌, length, length-append, slice_index, sym, ◌∙◌, ap, subst, arith}
use Rattle.std.proofs.lemmas.Bool.{cases_lt}
use Rattle.std.proofs.lemmas.List.{get_or_append_left, get_or_push}
use Rattle.std.specs.declared.alloc.Global.{Global}
use Rattle.std.specs.declared.vec.Vec.{Vec}
use Rattle.lalrpop_collections.proofs.theory.lists.Places.{slice_get-append_before}
use Rattle.lalrpop_collections.proofs.theory.states.KernelLemmas.{slice_get-push_at}
use Rattle.packed_tables.specs.Packed.{numbers_of, row_at}

-- each row is right for the state with its number, and one more is added
pub more_rows : (IsRight : ℕ → List ℕ → Type 0) (rows : List (Vec ℕ Global)) (row : Vec ℕ Global) → ((n : ℕ) → n < length rows → IsRight n (row_at rows n)) → IsRight (length rows) row.items → (n : ℕ) → n < length (rows ++ row ∷ []) → IsRight n (row_at (rows ++ row ∷ []) n)
more_rows IsRight rows row below is n within = ⊎_elim
    (λ (l : n < length rows). subst (IsRight n) (sym (ap numbers_of (slice_get-append_before rows (row ∷ []) n l))) (below n l))
    (λ (from : length rows ≤ n).
    let counted : length (rows ++ row ∷ []) ≡ length rows + 1 = length-append rows (row ∷ []) in
    let last : n ≡ length rows = omega (arith, from, within, counted) in
    let here : row_at (rows ++ row ∷ []) n ≡ row.items = ap (λ k. row_at (rows ++ row ∷ []) k) last ∙ ap numbers_of (slice_get-push_at rows row) in
    subst (λ (ns : List ℕ). IsRight n ns) (sym here) (subst (λ (k : ℕ). IsRight k row.items) (sym last) is))
    (cases_lt n (length rows))

-- each number of a row is right for its column, and one more is added
pub more_numbers : (IsRight : ℕ → ℕ → Type 0) (row : List ℕ) (number : ℕ) → ((n : ℕ) → n < length row → IsRight n (slice_index row n)) → IsRight (length row) number → (n : ℕ) → n < length (row ++ number ∷ []) → IsRight n (slice_index (row ++ number ∷ []) n)
more_numbers IsRight row number below is n within = ⊎_elim
    (λ (l : n < length row). subst (IsRight n) (sym (get_or_append_left row (number ∷ []) 0 n l)) (below n l))
    (λ (from : length row ≤ n).
    let counted : length (row ++ number ∷ []) ≡ length row + 1 = length-append row (number ∷ []) in
    let last : length row ≡ n = omega (arith, from, within, counted) in
    subst (IsRight n) (sym (get_or_push row number 0 n last)) (subst (λ (k : ℕ). IsRight k number) last is))
    (cases_lt n (length row))
