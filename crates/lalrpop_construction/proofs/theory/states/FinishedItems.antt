-- The finished items among items by number.
use Rattle.std.proofs.Common.{◌≡◌, ◌∙◌, ◌⊎◌, inl, inr, ℕ, List, [], ◌∷◌, ◌++◌, length, refl, sym, ap, subst, append-nil, Option, Some, None}
use Rattle.std.specs.Prelude.{slice_get, Contains}
use Rattle.std.proofs.lemmas.Grind.{flat_map-append}
use Rattle.std.proofs.lemmas.List.Elements.{Contains-append_left, Contains-append_right, Contains-append_cases, Contains-push, Contains-push_cases}
use Rattle.lalrpop_base.specs.Words.{AllDiffer}
use Rattle.lalrpop_collections.proofs.theory.lists.Members.{Contains-none, place}
use Rattle.lalrpop_collections.proofs.theory.lists.Places.{differ_push, slice_get-longer, slice_get-push_at}
use Rattle.lalrpop_construction.specs.states.NumberedStates.{HasFinished, finished_at, finished_in, finished_only}
use Rattle.lalrpop_numbers.specs.declared.numbers.Numbers.{Numbers}

-- the list has each finished item and no other, and has it once if the items differ
pub record AreFinishedOf (n : Numbers) (items finished : List ℕ) : Type 0 where
  pub is : finished ≡ finished_in n items
  pub all : HasFinished n items finished
  pub from : (k : ℕ) → Contains finished k → Contains items k
  pub once : AllDiffer items → AllDiffer finished

-- no item is finished if there is none
pub Finished-none : (n : Numbers) (finished : List ℕ) → finished ≡ [] → AreFinishedOf n [] finished
Finished-none n finished none = subst (AreFinishedOf n []) (sym none) (record {
  is = refl;
  all = λ k c end. absurd (Contains-none k c);
  from = λ k c. c;
  once = λ d. d;
})

-- the list has the finished items after one more item
pub Finished-more : (n : Numbers) (done : List ℕ) (item : ℕ) (old new : List ℕ) → AreFinishedOf n done old → new ≡ old ++ finished_at n item → AreFinishedOf n (done ++ item ∷ []) new
Finished-more n done item old new before adds = elim (either (slice_get n.behind.items item) refl) [
  | inl same ↦ record {
    is = is;
    all = all (λ k c. subst (λ (ks : List ℕ). Contains ks k) (sym same) c);
    from = λ k c. Contains-append_left done (item ∷ []) k (before.from k (subst (λ (ks : List ℕ). Contains ks k) same c));
    once = λ d. subst AllDiffer (sym same) (before.once (front d));
  }
  | inr more ↦ record {
    is = is;
    all = all (λ k c. subst (λ (ks : List ℕ). Contains ks k) (sym more) (Contains-append_left old (item ∷ []) k c));
    from = λ k c. elim (Contains-append_cases old (item ∷ []) k (subst (λ (ks : List ℕ). Contains ks k) more c)) [
      | inl was ↦ Contains-append_left done (item ∷ []) k (before.from k was)
      | inr last ↦ Contains-append_right done (item ∷ []) k last
    ];
    once = λ d. subst AllDiffer (sym more) (differ_push old item (before.once (front d)) (λ c. fresh d (before.from item c)));
  }
]
  where
    is : new ≡ finished_in n (done ++ item ∷ [])
    is = adds ∙ ap (λ (ks : List ℕ). ks ++ finished_at n item) before.is ∙ ap (λ (ks : List ℕ). finished_in n done ++ ks) (sym (append-nil (finished_at n item))) ∙ sym (flat_map-append (finished_at n) done (item ∷ []))

    either : (o : Option (Option ℕ)) → slice_get n.behind.items item ≡ o → (new ≡ old) ⊎ (new ≡ old ++ item ∷ [])
    either None e = inl (adds ∙ ap (λ (o : Option (Option ℕ)). old ++ finished_only o item) e ∙ append-nil old)
    either (Some (Some x)) e = inl (adds ∙ ap (λ (o : Option (Option ℕ)). old ++ finished_only o item) e ∙ append-nil old)
    either (Some None) e = inr (adds ∙ ap (λ (o : Option (Option ℕ)). old ++ finished_only o item) e)

    front : AllDiffer (done ++ item ∷ []) → AllDiffer done
    front d i j x l at_i at_j = d i j x l (slice_get-longer done (item ∷ []) i x at_i) (slice_get-longer done (item ∷ []) j x at_j)

    fresh : AllDiffer (done ++ item ∷ []) → Contains done item → ⊥
    fresh d c = let p = place done item c in d p.0 (length done) item p.1 (slice_get-longer done (item ∷ []) p.0 item p.2) (slice_get-push_at done item)

    all : ((k : ℕ) → Contains old k → Contains new k) → HasFinished n (done ++ item ∷ []) new
    all kept k c end = elim (Contains-push_cases done item k c) [
      | inl was ↦ kept k (before.all k was end)
      | inr e ↦
          let added : new ≡ old ++ item ∷ [] = adds ∙ ap (λ (o : Option (Option ℕ)). old ++ finished_only o item) (ap (slice_get n.behind.items) e ∙ end) in
          subst (Contains new) e (subst (λ (ks : List ℕ). Contains ks item) (sym added) (Contains-push old item))
    ]
