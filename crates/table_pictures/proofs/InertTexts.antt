-- Facts on JSON texts without `<`.
use Rattle.std.proofs.Common.{◌≡◌, ◌==◌, ◌<◌, ◌≤◌, ℕ, suc, zero, Bool, false, List, [], ◌∷◌, ◌++◌, cond, length, get_or, take, refl, sym, ap, ◌∙◌, arith, codes}
use Rattle.std.proofs.lemmas.Bool.{eqb-true}
use Rattle.std.proofs.lemmas.Grind.{flat_map-append}
use Rattle.std.proofs.lemmas.List.Sums.{fails_before_first, passes_at_first, split_at_first}
use Rattle.std.specs.List.{position_or_len, before_first, after_first}
use Rattle.table_pictures.specs.Escape.{inert}

-- a text without `<` stays
pub inert_clean : (bs : List ℕ) → ((k : ℕ) → k < length bs → (get_or bs k 0 == 60) ≡ false) → inert bs ≡ bs
inert_clean [] clean = refl
inert_clean (b ∷ bs) clean =
    ap (λ t. cond t (codes "\\u003c") (b ∷ []) ++ inert bs) (clean 0 (omega arith)) ∙ ap (λ t. b ∷ t) (inert_clean bs (λ k inside. clean (suc k) (omega arith)))

-- a text in which no place has `<` stays
pub inert_none : (bs : List ℕ) → position_or_len (λ b. b == 60) bs ≡ length bs → inert bs ≡ bs
inert_none bs none = inert_clean bs (λ k inside. fails_before_first (λ b. b == 60) bs k 0 (omega arith))

taken_clean : (bs : List ℕ) (n : ℕ) → n ≤ length bs → ((k : ℕ) → k < n → (get_or bs k 0 == 60) ≡ false) → inert (take n bs) ≡ take n bs
taken_clean bs zero fits clean = refl
taken_clean [] (suc n) fits clean = refl
taken_clean (b ∷ bs) (suc n) fits clean =
    ap (λ t. cond t (codes "\\u003c") (b ∷ []) ++ inert (take n bs)) (clean 0 (omega arith)) ∙ ap (λ t. b ∷ t) (taken_clean bs n (omega arith) (λ k inside. clean (suc k) (omega arith)))

-- the part before the first `<` stays, then `<` is written by its number, and then the rest is
-- written
pub inert_some : (bs before behind : List ℕ) → position_or_len (λ b. b == 60) bs < length bs → before ≡ before_first (λ b. b == 60) bs → behind ≡ after_first (λ b. b == 60) bs →
    inert bs ≡ before ++ (codes "\\u003c" ++ inert behind)
inert_some bs before behind h x y =
    let p : ℕ → Bool = λ b. b == 60 in
    let at : get_or bs (position_or_len p bs) 0 ≡ 60 = eqb-true _ 60 (passes_at_first p bs 0 h) in
    let whole : bs ≡ before_first p bs ++ 60 ∷ after_first p bs = split_at_first p bs 0 h ∙ ap (λ c. before_first p bs ++ c ∷ after_first p bs) at in
    let front : inert (before_first p bs) ≡ before_first p bs = taken_clean bs (position_or_len p bs) (omega arith) (λ k inside. fails_before_first p bs k 0 inside) in
    ap inert whole ∙ flat_map-append _ (before_first p bs) (60 ∷ after_first p bs) ∙ ap (λ t. t ++ inert (60 ∷ after_first p bs)) front
    ∙ ap (λ t. t ++ (codes "\\u003c" ++ inert (after_first p bs))) (sym x) ∙ ap (λ t. before ++ (codes "\\u003c" ++ inert t)) (sym y)
