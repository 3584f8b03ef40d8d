-- Lemmas on token sets that all differ, with their numbers.
use Rattle.std.proofs.Common.{◌≡◌, ℕ, ◌+◌, ◌<◌, ◌≤◌, ◌==◌, Bool, true, false, cond, List, [], ◌∷◌, ◌++◌, length, get_or, refl, sym, ◌∙◌, ap, subst, arith, rules, ⊎_elim, lt-ltb, le-ltb, eq-eqb, ne_eqb, true≢false}
use Rattle.std.specs.Prelude.{Option, Some, None, Contains, is_some, nat_lt}
use Rattle.std.specs.BTreeMap.{BTreeMap, get, Updates}
use Rattle.std.specs.Cmp.{IsEquivalence}
use Rattle.std.specs.Cmp.Rules.{comparing}
use Rattle.std.specs.List.{position}
use Rattle.std.specs.Ordering.{is_eq}
use Rattle.std.proofs.lemmas.Bool.{cases_lt}
use Rattle.std.proofs.lemmas.List.{length_push}
use Rattle.std.proofs.lemmas.List.Folds.{position_or_len_push}
use Rattle.std.proofs.lemmas.List.Sums.{prefix_len-le-length, fails_before_first, passes_at_first}
use Rattle.std.proofs.lemmas.Option.{none-some}
use Rattle.lalrpop_collections.specs.Words.{Bits}
use Rattle.lalrpop_collections.specs.lists.Bits.{bits_exact}
use Rattle.lalrpop_collections.proofs.theory.lists.Places.{differ_push}
use Rattle.table_data.specs.Sets.{AreNumbered, is_same, number_of, set_order}

-- ---- whether two sets are the same
same_laws : IsEquivalence is_same
same_laws = search (comparing, rules)

ties : (a b : Bits) → is_same a b ≡ is_eq (set_order a b)
ties = search (comparing, rules)

-- ---- a place in a list of some length, if it is within
abbrev found : ℕ → ℕ → Option ℕ
found place count = cond (nat_lt place count) (Some place) None

found_within : (place count : ℕ) → place < count → found place count ≡ Some place
found_within place count within = ap (λ b. cond b (Some place) None) (lt-ltb place count within)

found_past : (place count : ℕ) → count ≤ place → found place count ≡ None
found_past place count past = ap (λ b. cond b (Some place) None) (le-ltb place count past)

at_end : (place count : ℕ) → place ≤ count → found place count ≡ None → place ≡ count
at_end place count most none = ⊎_elim (λ within. absurd (none-some place (sym none ∙ found_within place count within))) (λ past. omega arith) (cases_lt place count)

is_within : (place count : ℕ) → is_some (found place count) ≡ true → place < count
is_within place count some = ⊎_elim (λ within. within) (λ past. absurd (true≢false (sym some ∙ ap (λ (o : Option ℕ). is_some o) (found_past place count past)))) (cases_lt place count)

-- the place of a value, after one value more was put at the end
grown : (place next count : ℕ) (same : Bool) → place ≤ count → next ≡ cond (place == count) (count + cond same 0 1) place → (same ≡ true → place ≡ count) → cond same (Some count) (found place count) ≡ found next (count + 1)
grown place next count true most is new =
    let here : place ≡ count = new refl in
    let there : next ≡ count = is ∙ ap (λ b. cond b (count + 0) place) (eq-eqb place count here) ∙ omega arith in
    sym (ap (λ k. found k (count + 1)) there ∙ found_within count (count + 1) (omega arith))
grown place next count false most is new = ⊎_elim
    (λ within.
    let there : next ≡ place = is ∙ ap (λ b. cond b (count + 1) place) (ne_eqb place count (λ e. omega arith)) in
    found_within place count within ∙ sym (ap (λ k. found k (count + 1)) there ∙ found_within place (count + 1) (omega arith)))
    (λ past.
    let here : place ≡ count = omega arith in
    let there : next ≡ count + 1 = is ∙ ap (λ b. cond b (count + 1) place) (eq-eqb place count here) in
    found_past place count past ∙ sym (ap (λ k. found k (count + 1)) there ∙ found_past (count + 1) (count + 1) (omega arith)))
    (cases_lt place count)

pub no_number : (number : Option ℕ) → false ≡ is_some number → number ≡ None
no_number None is = refl
no_number (Some n) is = absurd (true≢false (sym is))

-- ---- the numbers of sets
module _ (sets : List Bits) where
  no_further : (set : Bits) → number_of sets set ≤ length sets
  no_further set = prefix_len-le-length _ sets

  -- a set that is found is in the list
  found_in : (set : Bits) → is_some (position (λ other. is_same other set) sets) ≡ true → Contains sets set
  found_in set some =
      let within : number_of sets set < length sets = is_within (number_of sets set) (length sets) some in
      (number_of sets set, within, bits_exact _ _ (passes_at_first (λ other. is_same other set) sets set within))

  -- a set that is not found is not in the list
  not_found : (set : Bits) → position (λ other. is_same other set) sets ≡ None → ¬ Contains sets set
  not_found set none (place, within, is) =
      let past : number_of sets set ≡ length sets = at_end (number_of sets set) (length sets) (no_further set) none in
      let same : is_same (get_or sets place set) set ≡ true = ap (λ other. is_same other set) is ∙ same_laws.refl set in
      true≢false (sym same ∙ fails_before_first (λ other. is_same other set) sets place set (omega arith))

  pub number_past : (set : Bits) → None ≡ position (λ other. is_same other set) sets → length sets ≡ number_of sets set
  number_past set none = sym (at_end (number_of sets set) (length sets) (no_further set) (sym none))

-- ---- one set more
module _ (sets : List Bits) (numbers : BTreeMap Bits ℕ) (before : AreNumbered sets numbers) (set : Bits) where
  -- a set that has a number is in the list
  pub is_known : is_some (get set_order numbers set) ≡ true → Contains sets set
  is_known some = found_in sets set (ap (λ (o : Option ℕ). is_some o) (sym (before.numbered set)) ∙ some)

  module _ (next : BTreeMap Bits ℕ) (absent : get set_order numbers set ≡ None) (updates : Updates set_order numbers next set (Some (length sets))) where
    nowhere : position (λ other. is_same other set) sets ≡ None
    nowhere = sym (before.numbered set) ∙ absent

    last : (other : Bits) → is_same set other ≡ true → number_of sets other ≡ length sets
    last other same =
        let none : position (λ it. is_same it other) sets ≡ None = subst (λ (q : Bits). position (λ it. is_same it q) sets ≡ None) (bits_exact set other same) nowhere in
        at_end (number_of sets other) (length sets) (no_further sets other) none

    numbered : (other : Bits) → get set_order next other ≡ position (λ it. is_same it other) (sets ++ set ∷ [])
    numbered other =
        updates.0 other
        ∙ ap (λ b. cond b (Some (length sets)) (get set_order numbers other)) (sym (ties set other))
        ∙ ap (λ (o : Option ℕ). cond (is_same set other) (Some (length sets)) o) (before.numbered other)
        ∙ grown (number_of sets other) (number_of (sets ++ set ∷ []) other) (length sets) (is_same set other) (no_further sets other) (position_or_len_push (λ it. is_same it other) sets set) (last other)
        ∙ ap (λ n. found (number_of (sets ++ set ∷ []) other) n) (sym (length_push sets set))

    pub one_more_set : AreNumbered (sets ++ set ∷ []) next
    one_more_set = record { differ = differ_push sets set before.differ (not_found sets set nowhere); numbered = numbered }
