-- The bits of sets that are joined, and of sets of one bit.
use Rattle.std.proofs.Common.{◌≡◌, ℕ, ◌⊎◌, refl, sym, ◌∙◌, Bool, true, false, ◌||◌, inl, inr, ap, ◌==◌, eqb-true, eq-eqb}
use Rattle.std.proofs.Math.Bool.{or_comm}
use Rattle.std.proofs.lemmas.Bool.{or_cases, false≢true}
use Rattle.lalrpop_collections.specs.Words.{Bits, has, join, has-join, same_bits, no_bits, with_bit, has-no_bits, has-with_bit}

or_left : (a b : Bool) → a ≡ true → (a || b) ≡ true
or_left true b h = refl
or_left false b h = cc

or_right : (a b : Bool) → b ≡ true → (a || b) ≡ true
or_right true b h = refl
or_right false b h = h

or_absorbs : (a b : Bool) → (b ≡ true → a ≡ true) → (a || b) ≡ a
or_absorbs true b h = refl
or_absorbs false true h = sym (h refl)
or_absorbs false false h = refl

-- ---- joined sets
pub join_left : (s t : Bits) (bit : ℕ) → has s bit ≡ true → has (join s t) bit ≡ true
join_left s t bit h = has-join s t bit ∙ or_left (has s bit) (has t bit) h

pub join_right : (s t : Bits) (bit : ℕ) → has t bit ≡ true → has (join s t) bit ≡ true
join_right s t bit h = has-join s t bit ∙ or_right (has s bit) (has t bit) h

pub join_cases : (s t : Bits) (bit : ℕ) → has (join s t) bit ≡ true → (has s bit ≡ true) ⊎ (has t bit ≡ true)
join_cases s t bit h = or_cases (has s bit) (has t bit) (sym (has-join s t bit) ∙ h)

pub join_turned : (s t : Bits) → join s t ≡ join t s
join_turned s t = same_bits (join s t) (join t s) (λ bit. has-join s t bit ∙ or_comm (has s bit) (has t bit) ∙ sym (has-join t s bit))

-- joining bits that are already there changes nothing
pub join_within : (s t : Bits) → ((bit : ℕ) → has t bit ≡ true → has s bit ≡ true) → join s t ≡ s
join_within s t within = same_bits (join s t) s (λ bit. has-join s t bit ∙ or_absorbs (has s bit) (has t bit) (within bit))

-- ---- a set of one bit
-- a set of one bit has that bit alone
pub one_bit : (n b : ℕ) → has (with_bit no_bits n) b ≡ true → b ≡ n
one_bit n b h = elim (or_cases (b == n) (has no_bits b) (sym (has-with_bit no_bits n b) ∙ h)) [
  | inl e ↦ eqb-true b n e
  | inr k ↦ absurd (false≢true (sym (has-no_bits b) ∙ k))
]

pub own_bit : (n : ℕ) → has (with_bit no_bits n) n ≡ true
own_bit n = has-with_bit no_bits n n ∙ ap (λ b. b || has no_bits n) (eq-eqb n n refl)
