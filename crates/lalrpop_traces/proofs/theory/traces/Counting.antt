-- Counts of the elements of a list that pass a test.
use Rattle.std.proofs.Common.{◌≡◌, ◌<◌, ◌≤◌, Bool, true, false, List, [], ◌∷◌, length, refl, sym, arith, cond, inl, inr}
use Rattle.std.specs.Prelude.{filter, Contains}
use mathlib.Core.Bool.{true≢false}
use Rattle.lalrpop_collections.proofs.theory.lists.Members.{Contains-none, contains-cons}

module _ {X : Type 0} (P Q : X → Bool) (implies : (x : X) → Q x ≡ true → P x ≡ true) where
  step : (x : X) (q p : Bool) (a b : List X) → (q ≡ true → p ≡ true) → length a ≤ length b → length (cond q (x ∷ a) a) ≤ length (cond p (x ∷ b) b)
  step x true true a b h l = omega (arith, l)
  step x true false a b h l = absurd (true≢false (sym (h refl)))
  step x false true a b h l = omega (arith, l)
  step x false false a b h l = l

  -- a stronger test passes no more
  pub count_le : (xs : List X) → length (filter Q xs) ≤ length (filter P xs)
  count_le [] = omega arith
  count_le (x ∷ xs) = step x (Q x) (P x) (filter Q xs) (filter P xs) (implies x) (count_le xs)

  step_less : (x : X) (q p : Bool) (a b : List X) → (q ≡ true → p ≡ true) → length a < length b → length (cond q (x ∷ a) a) < length (cond p (x ∷ b) b)
  step_less x true true a b h l = omega (arith, l)
  step_less x true false a b h l = absurd (true≢false (sym (h refl)))
  step_less x false true a b h l = omega (arith, l)
  step_less x false false a b h l = l

  -- it passes fewer, if an element passes the weaker test alone
  pub count_less : (xs : List X) (y : X) → Contains xs y → P y ≡ true → Q y ≡ false → length (filter Q xs) < length (filter P xs)
  count_less [] y c p q = absurd (Contains-none y c)
  count_less (x ∷ xs) y c p q = elim (contains-cons x xs y c) [
    | inl e ↦ (let h : length (filter Q xs) ≤ length (filter P xs) = count_le xs in rw (e, p, q) (omega (arith, h)))
    | inr d ↦ step_less x (Q x) (P x) (filter Q xs) (filter P xs) (implies x) (count_less xs y d p q)
  ]
