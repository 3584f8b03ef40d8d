-- `==` of texts and lists is exact: it is `true` for equal values only.
use Rattle.std.specs.Prelude.{◌≡◌, Bool, true, false, ◌==◌, ◌&&◌, [], ◌∷◌, refl}
use Rattle.std.proofs.Common.{sym, eqb-true}
use lib.Pointwise.{pointwise}
use mathlib.Core.Bool.{true≢false}

-- the test is true for equal values only
abbrev pub Exactly : {A : Type 0} → (A → A → Bool) → Type 0
Exactly {A} E = (a b : A) → E a b ≡ true → a ≡ b

-- if a conjunction is true, both its parts are
pub both : (p q : Bool) → (p && q) ≡ true → (p ≡ true) × (q ≡ true)
both true q h = (refl, h)
both false q h = absurd (true≢false (sym h))

-- item by item, an exact test makes an exact test of lists
pub list_exact : {A : Type 0} {E : A → A → Bool} → Exactly E → Exactly (pointwise E)
list_exact {A} {E} exact [] [] h = refl
list_exact {A} {E} exact [] (y ∷ ys) h = cc
list_exact {A} {E} exact (x ∷ xs) [] h = cc
list_exact {A} {E} exact (x ∷ xs) (y ∷ ys) h =
    let parts = both (E x y) (pointwise E xs ys) h in
    cc (exact x y parts.0, list_exact exact xs ys parts.1)

-- `==` of lists of numbers is exact
pub text_exact : Exactly (pointwise ◌==◌)
text_exact = list_exact (λ a b h. eqb-true a b h)
