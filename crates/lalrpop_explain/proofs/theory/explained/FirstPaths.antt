-- The examples of the first paths of a walk, found one by one.
use Rattle.std.proofs.Common.{◌≡◌, ℕ, zero, suc, ◌-◌, ◌<◌, ◌≤◌, ◌⊎◌, inl, inr, true, false, List, [], ◌∷◌, ◌++◌, take, refl, sym, ◌∙◌, ap, subst, arith, append_assoc}
use Rattle.std.proofs.lemmas.List.{append-nil}
use mathlib.Core.Bool.{true≢false}
use mathlib.Core.List.{nil≢cons}
use Rattle.lalrpop_traces.specs.Words.{IsExampleOf, Graph, to_come, GoesTo, IsOfFirst}
use Rattle.lalrpop_explain.specs.Words.{AreExamplesOf}
use Rattle.lalrpop_explain.specs.explained.FirstExamples.{no_example, one_example}
use Rattle.lalrpop_explain.proofs.Types.{Example, PathEnumerator}

-- ---- lists of examples
-- a path and its example are put to the end of both lists
pub examples_more : (graph : Graph) (paths : List (List ℕ)) (xs : List Example) (path : List ℕ) (x : Example) → AreExamplesOf graph paths xs → IsExampleOf graph path x → AreExamplesOf graph (paths ++ path ∷ []) (xs ++ x ∷ [])
examples_more graph [] [] path x no_example is = one_example is no_example
examples_more graph [] (y ∷ ys) path x h is = elim h [ ]
examples_more graph (p ∷ ps) [] path x h is = elim h [ ]
examples_more graph (p ∷ ps) (y ∷ ys) path x (one_example first others) is = one_example first (examples_more graph ps ys path x others is)

-- a path moves from the front of the paths that are left to the end of those found
pub path_more : (found : List (List ℕ)) (path : List ℕ) (more : List (List ℕ)) → found ++ path ∷ more ≡ (found ++ path ∷ []) ++ more
path_more found path more = sym (append_assoc found (path ∷ []) more)

-- ---- the paths that a walk has left
-- the walk has these paths left, or it has none and an allocation failure to report
abbrev pub HasLeft : List (List ℕ) → PathEnumerator → Type 0
HasLeft rest walk = ((to_come walk ≡ rest) × (walk.refused ≡ false)) ⊎ ((to_come walk ≡ []) × (walk.refused ≡ true))

pub left_of : (rest : List (List ℕ)) (walk : PathEnumerator) → GoesTo rest walk → HasLeft rest walk
left_of rest walk (inl h) = inl (h.0, h.1)
left_of rest walk (inr h) = inr (h.0.here, h.1)

-- a walk that has no allocation failure to report has these paths left
pub left_is : (walk : PathEnumerator) (rest : List (List ℕ)) → HasLeft rest walk → walk.refused ≡ false → to_come walk ≡ rest
left_is walk rest (inl h) told = h.0
left_is walk rest (inr h) told = absurd (true≢false (sym h.1 ∙ told))

-- ---- a walk over all paths
-- the examples are those of some paths, and with the first of the rest these are the first `most`
-- paths of the walk
pub record IsListing (most : ℕ) (begun walk : PathEnumerator) (left : ℕ) (examples : List Example) : Type 0 where
  pub graph : walk.graph.now ≡ begun.graph.now
  pub found : List (List ℕ)
  pub rest : List (List ℕ)
  pub goes : HasLeft rest walk
  pub first : take most (to_come begun) ≡ found ++ take left rest
  pub spelled : AreExamplesOf begun.graph.now found examples

pub listing_begins : (most : ℕ) (walk : PathEnumerator) (examples : List Example) → walk.refused ≡ false → examples ≡ [] → IsListing most walk walk most examples
listing_begins most walk examples told none = record {
  graph = refl;
  found = [];
  rest = to_come walk;
  goes = inl (refl, told);
  first = refl;
  spelled = subst (λ (xs : List Example). AreExamplesOf walk.graph.now [] xs) (sym none) no_example;
}

-- the paths that are left of a walk that gives a path begin with that path
rest_of_walk : (walk : PathEnumerator) (rest new : List (List ℕ)) (path : List ℕ) → HasLeft rest walk → to_come walk ≡ path ∷ new → rest ≡ path ∷ new
rest_of_walk walk rest new path (inl h) e = sym h.0 ∙ e
rest_of_walk walk rest new path (inr h) e = absurd (nil≢cons (sym h.0 ∙ e))

taken_one : (left : ℕ) (path : List ℕ) (rest : List (List ℕ)) → 0 < left → take left (path ∷ rest) ≡ path ∷ take (left - 1) rest
taken_one zero path rest l = absurd (omega (arith, l))
taken_one (suc n) path rest l = let e : n ≡ suc n - 1 = omega arith in ap (λ k. path ∷ take k rest) e

pub listing_more : (most : ℕ) (begun walk next : PathEnumerator) (left : ℕ) (old new : List Example) (x : Example) → IsListing most begun walk left old → 0 < left → next.graph.now ≡ walk.graph.now → IsOfFirst walk x next → new ≡ old ++ x ∷ [] → IsListing most begun next (left - 1) new
listing_more most begun walk next left old new x h l same o grown =
    let here : IsExampleOf begun.graph.now o.path x = subst (λ (g : Graph). IsExampleOf g o.path x) h.graph o.spelled in
    let rest = rest_of_walk walk h.rest o.rest o.path h.goes o.first in
    record {
      graph = same ∙ h.graph;
      found = h.found ++ o.path ∷ [];
      rest = o.rest;
      goes = left_of o.rest next o.others;
      first = h.first ∙ ap (λ xs. h.found ++ take left xs) rest ∙ ap (λ xs. h.found ++ xs) (taken_one left o.path o.rest l) ∙ path_more h.found o.path (take (left - 1) o.rest);
      spelled = subst (λ (xs : List Example). AreExamplesOf begun.graph.now (h.found ++ o.path ∷ []) xs) (sym grown) (examples_more begun.graph.now h.found old o.path x h.spelled here);
    }

listed : (most : ℕ) (begun walk : PathEnumerator) (left : ℕ) (examples : List Example) (h : IsListing most begun walk left examples) → take left h.rest ≡ [] → AreExamplesOf begun.graph.now (take most (to_come begun)) examples
listed most begun walk left examples h e = subst (λ (ps : List (List ℕ)). AreExamplesOf begun.graph.now ps examples) (sym (h.first ∙ ap (λ xs. h.found ++ xs) e ∙ append-nil h.found)) h.spelled

take_none : {X : Type 0} (n : ℕ) (xs : List X) → n ≤ 0 → take n xs ≡ []
take_none zero xs l = refl
take_none (suc n) xs l = absurd (omega (arith, l))

take_of_none : {X : Type 0} (n : ℕ) (xs : List X) → xs ≡ [] → take n xs ≡ []
take_of_none n xs e = ap (take n) e ∙ taken_nil n
  where
    taken_nil : {X : Type 0} (n : ℕ) → take {A = X} n [] ≡ []
    taken_nil zero = refl
    taken_nil (suc n) = refl

pub listing_ends : (most : ℕ) (begun walk : PathEnumerator) (left : ℕ) (examples : List Example) → IsListing most begun walk left examples → left ≤ 0 → AreExamplesOf begun.graph.now (take most (to_come begun)) examples
listing_ends most begun walk left examples h l = listed most begun walk left examples h (take_none left h.rest l)

pub listing_stops : (most : ℕ) (begun walk : PathEnumerator) (left : ℕ) (examples : List Example) → IsListing most begun walk left examples → walk.refused ≡ false → to_come walk ≡ [] → AreExamplesOf begun.graph.now (take most (to_come begun)) examples
listing_stops most begun walk left examples h told e = listed most begun walk left examples h (take_of_none left h.rest (sym (left_is walk h.rest h.goes told) ∙ e))
