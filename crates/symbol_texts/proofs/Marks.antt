-- Numbers after a mark.
use Rattle.std.proofs.Common.{◌≡◌, ◌≢◌, ℕ, ◌<◌, ◌%◌, ◌^◌, List, [], ◌∷◌, ◌++◌, refl, ap, sym, subst, ◌∙◌, arith, append_assoc}
use Rattle.std.proofs.lemmas.Fmt.{decimal_by_steps, decimal_injective}
use Rattle.std.specs.Fmt.{decimal}

-- a text has no underscore
abbrev pub NoBar : List ℕ → Type 0
NoBar [] = Unit {0}
NoBar (b ∷ bs) = (b ≢ 95) × NoBar bs

pub no_bar_append : (u v : List ℕ) → NoBar u → NoBar v → NoBar (u ++ v)
no_bar_append [] v hu hv = hv
no_bar_append (b ∷ u) v hu hv = (hu.0, no_bar_append u v hu.1 hv)

-- a text with an underscore has one
no_bar_in : (u v : List ℕ) → NoBar (u ++ 95 ∷ v) → ⊥
no_bar_in [] v h = h.0 refl
no_bar_in (b ∷ u) v h = no_bar_in u v h.1

-- digits have none
pub no_bar_in_decimal : (n : ℕ) → n < 2 ^ 64 → NoBar (decimal n)
no_bar_in_decimal n few = decimal_by_steps (λ m ds. NoBar ds)
    (λ m l. ((λ e. absurd (omega (arith, l, e))), tt))
    (λ m ds l h. no_bar_append ds _ h ((λ e. let r : m % 10 < 10 = omega arith in absurd (omega (arith, e, r))), tt))
    n few

-- what is after the last underscore of a text is one thing
after_last : (u v d e : List ℕ) → NoBar d → NoBar e → u ++ 95 ∷ d ≡ v ++ 95 ∷ e → d ≡ e
after_last [] [] d e nd ne same = cc
after_last [] (b ∷ v) d e nd ne same =
    let rest : d ≡ v ++ 95 ∷ e = cc in
    absurd (no_bar_in v e (subst NoBar rest nd))
after_last (b ∷ u) [] d e nd ne same =
    let rest : u ++ 95 ∷ d ≡ e = cc in
    absurd (no_bar_in u d (subst NoBar (sym rest) ne))
after_last (b ∷ u) (c ∷ v) d e nd ne same =
    let rest : u ++ 95 ∷ d ≡ v ++ 95 ∷ e = cc in
    after_last u v d e nd ne rest

-- texts with marks that end in an underscore, and with numbers after these, are the same only if the
-- numbers are
pub marked_same : (u v m : List ℕ) (i j : ℕ) → i < 2 ^ 64 → j < 2 ^ 64 → u ++ ((m ++ 95 ∷ []) ++ decimal i) ≡ v ++ ((m ++ 95 ∷ []) ++ decimal j) → i ≡ j
marked_same u v m i j few_i few_j same =
    decimal_injective i j few_i few_j (after_last (u ++ m) (v ++ m) (decimal i) (decimal j) (no_bar_in_decimal i few_i) (no_bar_in_decimal j few_j)
    (append_assoc u m (95 ∷ decimal i) ∙ ap (λ t. u ++ t) (sym (append_assoc m (95 ∷ []) (decimal i))) ∙ same ∙ ap (λ t. v ++ t) (append_assoc m (95 ∷ []) (decimal j)) ∙ sym (append_assoc v m (95 ∷ decimal j))))
