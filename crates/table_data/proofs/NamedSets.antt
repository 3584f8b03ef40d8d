-- Lemmas on sets that are added to others, and on the set of all tokens.
use Rattle.std.proofs.Common.{◌≡◌, ℕ, zero, suc, ◌+◌, ◌<◌, ◌==◌, true, false, ◌||◌, inl, inr, List, [], ◌∷◌, ◌++◌, length, get_or, refl, sym, ◌∙◌, ap, subst, arith, take, ⊎_elim, lt-ltb, le-ltb, eq-eqb, ne_eqb}
use Rattle.std.specs.Prelude.{Contains, nat_le, nat_lt}
use Rattle.std.specs.List.{flat_map}
use Rattle.std.proofs.lemmas.Bool.{cases_eq, cases_lt, le-leb, lt-leb}
use Rattle.std.proofs.lemmas.List.Elements.{Contains-append_left, Contains-append_right, Contains-append_cases}
use Rattle.lalrpop_collections.specs.Words.{AllDiffer, Bits, has, has-no_bits, has-with_bit, same_bits}
use Rattle.lalrpop_collections.proofs.theory.lists.Members.{Contains-none, contains-cons}
use Rattle.lalrpop_grammar.specs.declared.repr.TerminalString.{TerminalString}
use Rattle.table_data.specs.Naming.{HasEachOnce, all_tokens, bits_below}
use Rattle.table_data.specs.Sets.{AddsSets}
use Rattle.table_data.proofs.Loops.{one_more}

-- ---- sets that are added
pub adds_none : (sets : List Bits) → AddsSets [] sets sets
adds_none sets = record { kept = λ set c. c; added = λ set c. absurd (Contains-none set c); others = λ set c. inl c }

pub adds_known : (sets : List Bits) (set : Bits) → Contains sets set → AddsSets (set ∷ []) sets sets
adds_known sets set there = record {
  kept = λ other c. c;
  added = λ other c. elim (contains-cons set [] other c) [ inl e ↦ subst (Contains sets) e there | inr none ↦ absurd (Contains-none other none) ];
  others = λ other c. inl c;
}

pub adds_fresh : (sets : List Bits) (set : Bits) → AddsSets (set ∷ []) sets (sets ++ set ∷ [])
adds_fresh sets set = record {
  kept = λ other c. Contains-append_left sets (set ∷ []) other c;
  added = λ other c. Contains-append_right sets (set ∷ []) other c;
  others = λ other c. Contains-append_cases sets (set ∷ []) other c;
}

pub adds_both : (xs ys old mid new : List Bits) → AddsSets xs old mid → AddsSets ys mid new → AddsSets (xs ++ ys) old new
adds_both xs ys old mid new first second = record {
  kept = λ set c. second.kept set (first.kept set c);
  added = λ set c. elim (Contains-append_cases xs ys set c) [ inl x ↦ second.kept set (first.added set x) | inr y ↦ second.added set y ];
  others = λ set c. elim (second.others set c) [
    | inl m ↦ elim (first.others set m) [ inl o ↦ inl o | inr x ↦ inr (Contains-append_left xs ys set x) ]
    | inr y ↦ inr (Contains-append_right xs ys set y)
  ];
}

-- if the sets of the first i values are added, and then those of value i, then those of the first
-- i + 1 are
pub adds_next : {X : Type 0} (f : X → List Bits) (xs : List X) (i : ℕ) (x : X) (old mid new : List Bits) → i < length xs → x ≡ get_or xs i x → AddsSets (flat_map f (take i xs)) old mid → AddsSets (f x) mid new →
    AddsSets (flat_map f (take (i + 1) xs)) old new
adds_next f xs i x old mid new inside same first second =
    subst (λ (named : List Bits). AddsSets named old new) (one_more f xs i x [] (flat_map f (take i xs)) (flat_map f (take i xs) ++ f x) inside same refl refl) (adds_both (flat_map f (take i xs)) (f x) old mid new first second)

-- what is added to nothing is each set once, if all differ
pub each_once : (named sets : List Bits) → AddsSets named [] sets → AllDiffer sets → HasEachOnce named sets
each_once named sets adds differ = record {
  differ = differ;
  same = λ set. (λ c. elim (adds.others set c) [ inl none ↦ absurd (Contains-none set none) | inr n ↦ n ], adds.added set);
}

-- ---- the set of all tokens
one_bit_more : (bit bound : ℕ) → ((bit == bound) || nat_lt bit bound) ≡ nat_lt bit (suc bound)
one_bit_more bit bound =
    ⊎_elim
    (λ less. ap (λ b. (bit == bound) || b) (lt-ltb bit bound less) ∙ ap (λ b. b || true) (ne_eqb bit bound (λ e. omega arith)) ∙ sym (lt-ltb bit (suc bound) (omega arith)))
    (λ most. ap (λ b. (bit == bound) || b) (le-ltb bit bound most) ∙ ⊎_elim
    (λ here. ap (λ b. b || false) (eq-eqb bit bound here) ∙ sym (lt-ltb bit (suc bound) (omega arith)))
    (λ apart. ap (λ b. b || false) (ne_eqb bit bound apart) ∙ sym (le-ltb bit (suc bound) (omega arith)))
    (cases_eq bit bound))
    (cases_lt bit bound)

has-bits_below : (bound bit : ℕ) → has (bits_below bound) bit ≡ nat_lt bit bound
has-bits_below zero bit = has-no_bits bit ∙ sym (le-ltb bit 0 (omega arith))
has-bits_below (suc bound) bit = has-with_bit (bits_below bound) bound bit ∙ ap (λ b. (bit == bound) || b) (has-bits_below bound bit) ∙ one_bit_more bit bound

lt_suc : (bit bound : ℕ) → nat_le bit bound ≡ nat_lt bit (suc bound)
lt_suc bit bound = ⊎_elim (λ less. le-leb bit bound (omega arith) ∙ sym (lt-ltb bit (suc bound) less)) (λ most. lt-leb bit bound (omega arith) ∙ sym (le-ltb bit (suc bound) most)) (cases_lt bit (suc bound))

pub is_all_tokens : (terminals : List TerminalString) (all : Bits) → ((bit : ℕ) → has all bit ≡ nat_le bit (length terminals)) → all ≡ all_tokens terminals
is_all_tokens terminals all is = same_bits all (all_tokens terminals) (λ bit. is bit ∙ lt_suc bit (length terminals) ∙ sym (has-bits_below (suc (length terminals)) bit))
