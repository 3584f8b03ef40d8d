-- The examples of the first paths of a filtered walk that meet its lookahead, found one by one.
use Rattle.std.proofs.Common.{◌≡◌, ℕ, zero, suc, ◌-◌, ◌<◌, ◌≤◌, inl, inr, false, List, [], ◌∷◌, ◌++◌, refl, sym, ◌∙◌, subst, arith}
use Rattle.std.specs.Prelude.{Contains, IsTrue}
use Rattle.std.proofs.lemmas.List.{append-nil}
use mathlib.Core.List.{nil≢cons}
use Rattle.lalrpop_base.specs.Words.{Bits, has, IsFirstSet, Rules}
use Rattle.lalrpop_collections.proofs.theory.lists.Members.{contains_head, contains_tail}
use Rattle.lalrpop_traces.specs.Words.{IsExampleOf, following, Graph, AreKnownEdges, to_come, Meets, NoneMeets, IsSameFilter, IsOfFirstMeeting}
use Rattle.lalrpop_explain.specs.Words.{AreExamplesOf, AreFirst, AreFirstMeeting}
use Rattle.lalrpop_explain.specs.explained.FirstExamples.{enough, none, skip, keep, no_example}
use Rattle.lalrpop_explain.proofs.Types.{Example, FilteredPathEnumerator, PathEnumerator}
use Rattle.lalrpop_explain.proofs.theory.explained.FirstPaths.{HasLeft, examples_more, left_is, left_of, path_more}

-- ---- the first of the paths of which something holds
module _ (P : List ℕ → Type 0) where
  skip_all : (n : ℕ) (skipped rest first : List (List ℕ)) → ((path : List ℕ) → Contains skipped path → ¬ P path) → AreFirst P n rest first → AreFirst P n (skipped ++ rest) first
  skip_all n [] rest first not h = h
  skip_all n (p ∷ ps) rest first not h = skip (not p (contains_head p ps)) (skip_all n ps rest first (λ q c. not q (contains_tail p ps q c)) h)

  none_left : (n : ℕ) (all : List (List ℕ)) → ((path : List ℕ) → Contains all path → ¬ P path) → AreFirst P n all []
  none_left n [] not = none
  none_left n (p ∷ ps) not = skip (not p (contains_head p ps)) (none_left n ps (λ q c. not q (contains_tail p ps q c)))

  kept_one : (left : ℕ) (path : List ℕ) (rest more : List (List ℕ)) → 0 < left → P path → AreFirst P (left - 1) rest more → AreFirst P left (path ∷ rest) (path ∷ more)
  kept_one zero path rest more l p h = absurd (omega (arith, l))
  kept_one (suc n) path rest more l p h = let e : suc n - 1 ≡ n = omega arith in keep p (subst (λ k. AreFirst P k rest more) e h)

  enough_of : (n : ℕ) (all : List (List ℕ)) → n ≤ 0 → AreFirst P n all []
  enough_of zero all l = enough
  enough_of (suc n) all l = absurd (omega (arith, l))

-- ---- walks with the same graph, FIRST sets and lookahead
-- the terminals of the edges are known to a filtered walk over the same graph with the same
-- terminals
pub known_same : (walk next : FilteredPathEnumerator) → IsSameFilter walk next → AreKnownEdges walk.first_sets.now.terminals walk.base.graph.now.edges → AreKnownEdges next.first_sets.now.terminals next.base.graph.now.edges
known_same walk next same known =
    let Known : Rules → Graph → Type 0 = λ r g. AreKnownEdges r.terminals g.edges in
    subst (λ (r : Rules). Known r next.base.graph.now) (sym same.first_sets) (subst (λ (g : Graph). Known walk.first_sets.now g) (sym same.graph) known)

-- a path that meets the lookahead of a walk meets that of a walk with the same graph, FIRST sets
-- and lookahead
meets_same : (a b : FilteredPathEnumerator) → b.base.graph.now ≡ a.base.graph.now → b.first_sets.now ≡ a.first_sets.now → b.lookahead ≡ a.lookahead → (path : List ℕ) → Meets b path → Meets a path
meets_same a b graph sets lookahead path m = (
  m.0,
  subst (λ (g : Graph). IsFirstSet a.first_sets.now (following g path) m.0) graph (subst (λ (r : Rules). IsFirstSet r (following b.base.graph.now path) m.0) sets m.1),
  m.2,
  m.3,
  subst (λ (s : Bits). IsTrue (has s m.2)) lookahead m.4,
)

meets_begun : (begun walk : FilteredPathEnumerator) → IsSameFilter begun walk → (path : List ℕ) → Meets walk path → Meets begun path
meets_begun begun walk s path m = meets_same begun walk s.graph s.first_sets s.lookahead path m

none_begun : (begun walk : FilteredPathEnumerator) → IsSameFilter begun walk → (paths : List (List ℕ)) → NoneMeets walk paths → (path : List ℕ) → Contains paths path → ¬ Meets begun path
none_begun begun walk s paths not path c m = not path c (meets_same walk begun (sym s.graph) (sym s.first_sets) (sym s.lookahead) path m)

-- ---- the walk
-- the examples are those of some paths that meet the lookahead, and the first such ones of the rest
-- are still to be found
pub record IsFiltering (most : ℕ) (begun walk : FilteredPathEnumerator) (left : ℕ) (examples : List Example) : Type 0 where
  pub same : IsSameFilter begun walk
  pub found : List (List ℕ)
  pub rest : List (List ℕ)
  pub goes : HasLeft rest walk.base
  pub first : (more : List (List ℕ)) → AreFirst (Meets begun) left rest more → AreFirst (Meets begun) most (to_come begun.base) (found ++ more)
  pub spelled : AreExamplesOf begun.base.graph.now found examples

pub filtering_begins : (most : ℕ) (walk : FilteredPathEnumerator) (examples : List Example) → walk.base.refused ≡ false → examples ≡ [] → IsFiltering most walk walk most examples
filtering_begins most walk examples told nothing = record {
  same = record { graph = refl; first_sets = refl; lookahead = refl };
  found = [];
  rest = to_come walk.base;
  goes = inl (refl, told);
  first = λ more h. h;
  spelled = subst (λ (xs : List Example). AreExamplesOf walk.base.graph.now [] xs) (sym nothing) no_example;
}

nil-append : {X : Type 0} (xs : List X) (y : X) (ys : List X) → [] ≡ xs ++ y ∷ ys → ⊥
nil-append [] y ys e = nil≢cons e
nil-append (x ∷ xs) y ys e = nil≢cons e

rest_of_filtered : (walk : PathEnumerator) (rest skipped new : List (List ℕ)) (path : List ℕ) → HasLeft rest walk → to_come walk ≡ skipped ++ path ∷ new → rest ≡ skipped ++ path ∷ new
rest_of_filtered walk rest skipped new path (inl h) e = sym h.0 ∙ e
rest_of_filtered walk rest skipped new path (inr h) e = absurd (nil-append skipped path new (sym h.0 ∙ e))

pub filtering_more : (most : ℕ) (begun walk next : FilteredPathEnumerator) (left : ℕ) (old new : List Example) (x : Example) → IsFiltering most begun walk left old → 0 < left → IsSameFilter walk next → IsOfFirstMeeting walk x next → new ≡ old ++ x ∷ [] →
    IsFiltering most begun next (left - 1) new
filtering_more most begun walk next left old new x h l same o grown =
    let here : IsExampleOf begun.base.graph.now o.path x = subst (λ (g : Graph). IsExampleOf g o.path x) h.same.graph o.spelled in
    let rest = rest_of_filtered walk.base h.rest o.skipped o.rest o.path h.goes o.first in
    record {
      same = record { graph = same.graph ∙ h.same.graph; first_sets = same.first_sets ∙ h.same.first_sets; lookahead = same.lookahead ∙ h.same.lookahead };
      found = h.found ++ o.path ∷ [];
      rest = o.rest;
      goes = left_of o.rest next.base o.others;
      first = λ more k.
          let one = kept_one (Meets begun) left o.path o.rest more l (meets_begun begun walk h.same o.path o.meets) k in
          let all = skip_all (Meets begun) left o.skipped (o.path ∷ o.rest) (o.path ∷ more) (none_begun begun walk h.same o.skipped o.before) one in
          let was : AreFirst (Meets begun) left h.rest (o.path ∷ more) = subst (λ (xs : List (List ℕ)). AreFirst (Meets begun) left xs (o.path ∷ more)) (sym rest) all in
          subst (λ (xs : List (List ℕ)). AreFirst (Meets begun) most (to_come begun.base) xs) (path_more h.found o.path more) (h.first (o.path ∷ more) was);
      spelled = subst (λ (xs : List Example). AreExamplesOf begun.base.graph.now (h.found ++ o.path ∷ []) xs) (sym grown) (examples_more begun.base.graph.now h.found old o.path x h.spelled here);
    }

filtered : (most : ℕ) (begun walk : FilteredPathEnumerator) (left : ℕ) (examples : List Example) (h : IsFiltering most begun walk left examples) → AreFirst (Meets begun) left h.rest [] → AreFirstMeeting begun most examples
filtered most begun walk left examples h e = record {
  first = h.found;
  are_first = subst (λ (xs : List (List ℕ)). AreFirst (Meets begun) most (to_come begun.base) xs) (append-nil h.found) (h.first [] e);
  spelled = h.spelled;
}

pub filtering_ends : (most : ℕ) (begun walk : FilteredPathEnumerator) (left : ℕ) (examples : List Example) → IsFiltering most begun walk left examples → left ≤ 0 → AreFirstMeeting begun most examples
filtering_ends most begun walk left examples h l = filtered most begun walk left examples h (enough_of (Meets begun) left h.rest l)

pub filtering_stops : (most : ℕ) (begun walk : FilteredPathEnumerator) (left : ℕ) (examples : List Example) → IsFiltering most begun walk left examples → walk.base.refused ≡ false → NoneMeets walk (to_come walk.base) → AreFirstMeeting begun most examples
filtering_stops most begun walk left examples h told not =
    let none_of_rest : NoneMeets walk h.rest = subst (NoneMeets walk) (left_is walk.base h.rest h.goes told) not in
    filtered most begun walk left examples h (none_left (Meets begun) left h.rest (none_begun begun walk h.same h.rest none_of_rest))
