-- Maps of collections that differ at one key at most.
use Rattle.std.proofs.Common.{◌≡◌, Bool, true, false, List, [], ◌∷◌, ◌++◌, map, refl, sym, ◌∙◌, ap, subst, ⊎_elim, Result, Ok, Err, IfOk, OnErr, MatchBool, cond}
use Rattle.std.specs.Prelude.{Option, Some, None, filter}
use Rattle.std.specs.declared.cmp.Ordering.{Ordering}
use Rattle.std.specs.declared.cmp.Ordering.TheVariants.{Equal}
use Rattle.std.specs.Ordering.{is_eq}
use Rattle.std.specs.Cmp.{IsTotalOrder, Equal-is, eq_by_cmp_equiv}
use Rattle.std.specs.Map.{lookup}
use Rattle.std.specs.BTreeMap.{is_at}
use Rattle.std.proofs.lemmas.Bool.{cases_Bool}
use Rattle.lalrpop_collections.specs.Words.{collection_at, PushesAt, PushesAll, IsCollectionOf, values_at, SameAt, AreSame, at_itself}

-- equal keys have one collection
pub tied_at : {K C : Type 0} {cmp : K → K → Ordering} → IsTotalOrder cmp → (k q : K) → cmp k q ≡ Equal → (es : List (K × C)) → collection_at cmp es q ≡ collection_at cmp es k
tied_at {cmp = cmp} total k q tie [] = refl
tied_at {cmp = cmp} total k q tie (e ∷ es) =
    ap (λ o. cond (is_eq o) (Some e.1) (lookup (is_at (cmp q)) es)) (sym (total.congr k q e.0 tie))
    ∙ ap (λ r. cond (is_eq (cmp k e.0)) (Some e.1) r) (tied_at total k q tie es)

-- maps with the same collection at one key, and equal ones elsewhere, are the same
pub everywhere : {K C : Type 0} {cmp : K → K → Ordering} → IsTotalOrder cmp → (Same : C → C → Type 0) → ((c : C) → Same c c) → (old new : List (K × C)) (key : K) →
    ((q : K) → is_eq (cmp key q) ≡ false → collection_at cmp new q ≡ collection_at cmp old q) → SameAt Same (collection_at cmp old key) (collection_at cmp new key) → AreSame cmp Same old new
everywhere {C = C} {cmp = cmp} total Same itself old new key kept here q =
    ⊎_elim
    (λ tied. let tie : cmp key q ≡ Equal = (Equal-is (cmp key q)).0 tied in
    subst (λ (o : Option C). SameAt Same o (collection_at cmp new q)) (sym (tied_at total key q tie old))
    (subst (λ (o : Option C). SameAt Same (collection_at cmp old key) o) (sym (tied_at total key q tie new)) here))
    (λ apart. subst (λ (o : Option C). SameAt Same (collection_at cmp old q) o) (sym (kept q apart)) (at_itself Same itself (collection_at cmp old q)))
    (cases_Bool (is_eq (cmp key q)))

-- if a result says whether the collection of the key changed, it says whether the map changed
pub told_everywhere : {K C E : Type 0} {cmp : K → K → Ordering} → IsTotalOrder cmp → (Same : C → C → Type 0) → ((c : C) → Same c c) → (old new : List (K × C)) (key : K) (r : Result Bool E) →
    ((q : K) → is_eq (cmp key q) ≡ false → collection_at cmp new q ≡ collection_at cmp old q) →
    IfOk r (λ changed. MatchBool changed (¬ SameAt Same (collection_at cmp old key) (collection_at cmp new key)) (SameAt Same (collection_at cmp old key) (collection_at cmp new key))) →
    IfOk r (λ changed. MatchBool changed (¬ AreSame cmp Same old new) (AreSame cmp Same old new))
told_everywhere {cmp = cmp} total Same itself old new key (Ok true) kept told = λ all. told (all key)
told_everywhere {cmp = cmp} total Same itself old new key (Ok false) kept told = everywhere total Same itself old new key kept told
told_everywhere {cmp = cmp} total Same itself old new key (Err e) kept told = tt

-- a map is the same after a push that failed
pub err_everywhere : {K C E : Type 0} {cmp : K → K → Ordering} → IsTotalOrder cmp → (Same : C → C → Type 0) → ((c : C) → Same c c) → (old new : List (K × C)) (key : K) (r : Result Bool E) →
    ((q : K) → is_eq (cmp key q) ≡ false → collection_at cmp new q ≡ collection_at cmp old q) →
    OnErr r (SameAt Same (collection_at cmp old key) (collection_at cmp new key)) → OnErr r (AreSame cmp Same old new)
err_everywhere {cmp = cmp} total Same itself old new key (Ok b) kept here = tt
err_everywhere {cmp = cmp} total Same itself old new key (Err e) kept here = everywhere total Same itself old new key kept here

module _ {C I : Type 0} (IsNone : C → Type 0) (Pushes : C → I → C → Type 0) where
  -- one push more after the others
  pub all_and_one : (old next new : C) (values : List I) (value : I) → PushesAll IsNone Pushes old values next → Pushes next value new → PushesAll IsNone Pushes old (values ++ value ∷ []) new
  all_and_one old next new [] value same pushed = (new, subst (λ (c : C). Pushes c value new) same pushed, refl)
  all_and_one old next new (v ∷ values) value all pushed = (all.0, all.1, all_and_one all.0 next new values value all.2 pushed)

  -- a push into a collection of values collects one value more
  pub collected_and_one : (values : List I) (value : I) (old new : Option C) → IsCollectionOf IsNone Pushes values old → PushesAt IsNone Pushes old value new → IsCollectionOf IsNone Pushes (values ++ value ∷ []) new
  collected_and_one values value None None collected pushed = absurd pushed
  collected_and_one values value (Some old) None collected pushed = absurd pushed
  collected_and_one [] value (Some old) (Some new) collected pushed = absurd collected
  collected_and_one [] value None (Some new) collected pushed = (pushed.0, pushed.1, (new, pushed.2, refl))
  collected_and_one (v ∷ values) value None (Some new) collected pushed = cc
  collected_and_one (v ∷ values) value (Some old) (Some new) collected pushed = (collected.0, collected.1, all_and_one collected.0 old new (v ∷ values) value collected.2 pushed)

-- a last pair with the key adds its value to the values of the key
values_at-tied : {K I : Type 0} (cmp : K → K → Ordering) (q key : K) (value : I) → is_eq (cmp q key) ≡ true → (pairs : List (K × I)) → values_at cmp q (pairs ++ (key, value) ∷ []) ≡ values_at cmp q pairs ++ value ∷ []
values_at-tied cmp q key value tied [] = rw tied refl
values_at-tied cmp q key value tied (p ∷ pairs) =
    elim (is_eq (cmp q p.0)) as (λ b. map (λ e. e.1) (cond b (p ∷ filter (λ e. is_eq (cmp q e.0)) (pairs ++ (key, value) ∷ [])) (filter (λ e. is_eq (cmp q e.0)) (pairs ++ (key, value) ∷ [])))
    ≡ map (λ e. e.1) (cond b (p ∷ filter (λ e. is_eq (cmp q e.0)) pairs) (filter (λ e. is_eq (cmp q e.0)) pairs)) ++ value ∷ []) [
      | true ↦ ap (λ vs. p.1 ∷ vs) (values_at-tied cmp q key value tied pairs)
      | false ↦ values_at-tied cmp q key value tied pairs
    ]

-- a last pair with another key leaves the values of the key as they were
values_at-apart : {K I : Type 0} (cmp : K → K → Ordering) (q key : K) (value : I) → is_eq (cmp q key) ≡ false → (pairs : List (K × I)) → values_at cmp q (pairs ++ (key, value) ∷ []) ≡ values_at cmp q pairs
values_at-apart cmp q key value apart [] = rw apart refl
values_at-apart cmp q key value apart (p ∷ pairs) =
    elim (is_eq (cmp q p.0)) as (λ b. map (λ e. e.1) (cond b (p ∷ filter (λ e. is_eq (cmp q e.0)) (pairs ++ (key, value) ∷ [])) (filter (λ e. is_eq (cmp q e.0)) (pairs ++ (key, value) ∷ [])))
    ≡ map (λ e. e.1) (cond b (p ∷ filter (λ e. is_eq (cmp q e.0)) pairs) (filter (λ e. is_eq (cmp q e.0)) pairs))) [
      | true ↦ ap (λ vs. p.1 ∷ vs) (values_at-apart cmp q key value apart pairs)
      | false ↦ values_at-apart cmp q key value apart pairs
    ]

apart_back : {K : Type 0} {cmp : K → K → Ordering} → IsTotalOrder cmp → (q k : K) → is_eq (cmp q k) ≡ false → is_eq (cmp k q) ≡ false
apart_back {cmp = cmp} total q k apart = ((eq_by_cmp_equiv total).symm k q) ∙ apart

-- one more pair is pushed into the map that the earlier ones made
pub pairs_and_one : {K C I : Type 0} {cmp : K → K → Ordering} (IsNone : C → Type 0) (Pushes : C → I → C → Type 0) → IsTotalOrder cmp → (pairs : List (K × I)) (key : K) (value : I) (old new : List (K × C)) →
    ((q : K) → IsCollectionOf IsNone Pushes (values_at cmp q pairs) (collection_at cmp old q)) →
    PushesAt IsNone Pushes (collection_at cmp old key) value (collection_at cmp new key) →
    ((q : K) → is_eq (cmp key q) ≡ false → collection_at cmp new q ≡ collection_at cmp old q) →
    (q : K) → IsCollectionOf IsNone Pushes (values_at cmp q (pairs ++ (key, value) ∷ [])) (collection_at cmp new q)
pairs_and_one {C = C} {cmp = cmp} IsNone Pushes total pairs key value old new collected pushed others q =
    ⊎_elim
    (λ tied. let tie : cmp q key ≡ Equal = (Equal-is (cmp q key)).0 tied in
    let here : PushesAt IsNone Pushes (collection_at cmp old q) value (collection_at cmp new q) =
    subst (λ (o : Option C). PushesAt IsNone Pushes o value (collection_at cmp new q)) (tied_at total q key tie old)
    (subst (λ (n : Option C). PushesAt IsNone Pushes (collection_at cmp old key) value n) (tied_at total q key tie new) pushed) in
    rw (values_at-tied cmp q key value tied pairs) (collected_and_one IsNone Pushes (values_at cmp q pairs) value (collection_at cmp old q) (collection_at cmp new q) (collected q) here))
    (λ apart. rw (values_at-apart cmp q key value apart pairs, others q (apart_back total q key apart)) (collected q))
    (cases_Bool (is_eq (cmp q key)))
