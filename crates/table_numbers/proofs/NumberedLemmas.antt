-- States by number, while token sets get numbers.
use Rattle.std.proofs.Common.{◌≡◌, ⊎_elim, ℕ, ◌+◌, ◌<◌, List, [], ◌∷◌, ◌++◌, length, map, take, get_or, slice_get, Option, Some, refl, sym, ◌∙◌, ap, subst}
use Rattle.std.specs.Borrow.{Bor}
use Rattle.std.proofs.lemmas.List.{map-append, take_more}
use Rattle.lalrpop_base.specs.Words.{Bits}
use Rattle.lalrpop_collections.proofs.theory.lists.Places.{push_cases}
use Rattle.lalrpop_grammar.specs.declared.repr.Production.{Production}
use Rattle.lalrpop_states.specs.declared.lr1_core.state.State.{State}
use Rattle.table_numbers.specs.Lists.{Lists}
use Rattle.table_numbers.specs.Numbered.{AreNumbered, EachIsNumbered, IsNumbered, Keeps, reduction_at, reduction_parts}
use Rattle.table_numbers.specs.declared.tables.NumberedState.{NumberedState}

module _ (productions : List Production) (old new : List Bits) (kept : Keeps old new) where
  kept_at : (r : ℕ × ℕ) (q : Bits × Bor Production) → reduction_at productions old r ≡ reduction_parts q → reduction_at productions new r ≡ reduction_parts q
  kept_at r q e =
      let there : slice_get old r.1 ≡ Some q.0 = ap (λ (x : Option Production × Option Bits). x.1) e in
      let first : slice_get productions r.0 ≡ Some q.1.now = ap (λ (x : Option Production × Option Bits). x.0) e in
      ap (λ (o : Option Production). (o, slice_get new r.1)) first ∙ ap (λ (o : Option Bits). (Some q.1.now, o)) (kept r.1 q.0 there)

  -- reductions by number stay when token sets are added
  pub kept_reductions : (rs : List (ℕ × ℕ)) (qs : List (Bits × Bor Production)) → map (reduction_at productions old) rs ≡ map reduction_parts qs → map (reduction_at productions new) rs ≡ map reduction_parts qs
  kept_reductions [] [] e = refl
  kept_reductions [] (q ∷ qs) e = cc
  kept_reductions (r ∷ rs) [] e = cc
  kept_reductions (r ∷ rs) (q ∷ qs) e =
      let first : reduction_at productions old r ≡ reduction_parts q = cc in
      let others : map (reduction_at productions old) rs ≡ map reduction_parts qs = cc in
      ap (λ x. x ∷ map (reduction_at productions new) rs) (kept_at r q first) ∙ ap (λ xs. reduction_parts q ∷ xs) (kept_reductions rs qs others)

  -- one more reduction by number was added
  pub next_reduction : (pairs : List (ℕ × ℕ)) (rs : List (Bits × Bor Production)) (i : ℕ) (pair : ℕ × ℕ) (q : Bits × Bor Production) → i < length rs → q ≡ get_or rs i q → reduction_at productions new pair ≡ reduction_parts q →
      map (reduction_at productions old) pairs ≡ map reduction_parts (take i rs) → map (reduction_at productions new) (pairs ++ pair ∷ []) ≡ map reduction_parts (take (i + 1) rs)
  next_reduction pairs rs i pair q l is at e =
      map-append (reduction_at productions new) pairs (pair ∷ [])
      ∙ ap (λ xs. xs ++ reduction_at productions new pair ∷ []) (kept_reductions pairs (take i rs) e)
      ∙ ap (λ x. map reduction_parts (take i rs) ++ x ∷ []) at
      ∙ sym (map-append reduction_parts (take i rs) (q ∷ []))
      ∙ ap (λ x. map reduction_parts (take i rs ++ x ∷ [])) is
      ∙ ap (map reduction_parts) (sym (take_more rs i q l))

module _ (lists : Lists) (old new : List Bits) (kept : Keeps old new) where
  kept_state : (state : State Bits) (s : NumberedState) → IsNumbered lists old state s → IsNumbered lists new state s
  kept_state state s is = record {
    shifts = is.shifts;
    gotos = is.gotos;
    reductions = kept_reductions lists.productions old new kept s.reductions state.reductions.items is.reductions;
  }

  -- one more state by number was added
  pub next_state : (states : List (State Bits)) (list : List NumberedState) (state : State Bits) (s : NumberedState) → slice_get states (length list) ≡ Some state → IsNumbered lists new state s →
      EachIsNumbered lists old states list → EachIsNumbered lists new states (list ++ s ∷ [])
  next_state states list state s here is each n other t at_n at_t = ⊎_elim
      (λ before. kept_state other t (each n other t at_n before))
      (λ last.
      let same : Some state ≡ Some other = sym here ∙ ap (slice_get states) (sym last.0) ∙ at_n in
      let is_state : state ≡ other = cc in
      subst (λ (x : NumberedState). IsNumbered lists new other x) last.1 (subst (λ (x : State Bits). IsNumbered lists new x s) is_state is))
      (push_cases list s n t at_t)

  -- states by number stay when token sets are added
  pub kept_states : (states : List (State Bits)) (list : List NumberedState) → AreNumbered lists old states list → AreNumbered lists new states list
  kept_states states list are = record {
    counted = are.counted;
    each = λ n state s at_n at_s. kept_state state s (are.each n state s at_n at_s);
  }
