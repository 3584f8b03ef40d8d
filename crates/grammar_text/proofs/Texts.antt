-- Pieces of a text, and words between quotes.
use Rattle.std.proofs.Common.{◌≡◌, ◌≢◌, ◌≤◌, ◌==◌, ◌<◌, ℕ, Bool, true, false, List, [], ◌∷◌, ◌++◌, length, Option, None, cond, refl, ap, arith}
use Rattle.std.proofs.lemmas.Bool.{eqb-true}
use Rattle.std.proofs.lemmas.List.Splits.{slice_split_first, slice_split_none}
use Rattle.std.proofs.lemmas.List.Sums.{fails_before_first}
use Rattle.std.specs.List.{slice_split, position_or_len, before_first, after_first}
use Rattle.grammar_text.specs.Symbols.{quoted}
use Rattle.grammar_text.specs.Lines.{without_cr}

-- the first piece of a text ends before the first such byte, and the others are those of the rest
pub split_some : (c : ℕ) (bs piece more : List ℕ) → position_or_len (λ b. b == c) bs < length bs → piece ≡ before_first (λ b. b == c) bs → more ≡ after_first (λ b. b == c) bs
    → slice_split (λ b. b == c) bs ≡ piece ∷ slice_split (λ b. b == c) more
split_some c bs piece more h x y = rw (x, y) (slice_split_first (λ b. b == c) bs 0 h)

-- a text without such a byte is one piece
pub split_none : (c : ℕ) (bs : List ℕ) → position_or_len (λ b. b == c) bs ≡ length bs → slice_split (λ b. b == c) bs ≡ bs ∷ []
split_none c bs e = slice_split_none (λ b. b == c) bs (λ k d h. fails_before_first (λ b. b == c) bs k d (omega arith))

cond_none : (t : Bool) (x : Option (List ℕ)) → (t ≡ true → ⊥) → cond t x None ≡ None
cond_none true x h = absurd (h refl)
cond_none false x h = refl

-- a word that does not begin with a quote is no literal
pub not_quoted : (w : List ℕ) → ((rest : List ℕ) → w ≢ 34 ∷ rest) → quoted w ≡ None
not_quoted [] h = refl
not_quoted (b ∷ bs) h = cond_none (b == 34) _ (λ e. h bs (ap (λ c. c ∷ bs) (eqb-true b 34 e)))

-- a CR at the end is cut off
pub cr_cut : (front : List ℕ) → without_cr (front ++ 13 ∷ []) ≡ front
cr_cut [] = refl
cr_cut (b ∷ []) = refl
cr_cut (b ∷ c ∷ bs) = ap (λ xs. b ∷ xs) (cr_cut (c ∷ bs))

cr_kept_at : (t : Bool) (b : ℕ) → (t ≡ true → ⊥) → cond t [] (b ∷ []) ≡ b ∷ []
cr_kept_at true b h = absurd (h refl)
cr_kept_at false b h = refl

-- a line with no CR at its end stays
pub cr_none : (line : List ℕ) → ((front : List ℕ) → line ≢ front ++ 13 ∷ []) → without_cr line ≡ line
cr_none [] h = refl
cr_none (b ∷ []) h = cr_kept_at (b == 13) b (λ e. h [] (ap (λ c. c ∷ []) (eqb-true b 13 e)))
cr_none (b ∷ c ∷ bs) h = ap (λ xs. b ∷ xs) (cr_none (c ∷ bs) (λ front e. h (b ∷ front) (ap (λ xs. b ∷ xs) e)))

-- a line without its CR is no longer than the line
pub without_cr-le : (line : List ℕ) → length (without_cr line) ≤ length line
without_cr-le [] = omega arith
without_cr-le (b ∷ []) = cr_le_at (b == 13) b
  where
    cr_le_at : (t : Bool) (b : ℕ) → length (cond t [] (b ∷ [])) ≤ 1
    cr_le_at true b = omega arith
    cr_le_at false b = omega arith
without_cr-le (b ∷ c ∷ bs) = omega (arith, without_cr-le (c ∷ bs))
