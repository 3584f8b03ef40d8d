-- The paths that a filtered walk passes over.
use Rattle.std.proofs.Common.{◌≡◌, ℕ, ◌⊎◌, inl, inr, true, false, List, [], ◌∷◌, ◌++◌, refl, sym, ◌∙◌, ap, subst, append_assoc, append-nil}
use Rattle.std.specs.Prelude.{IsTrue, Option, Some, None, Ok, Err}
use Rattle.std.specs.declared.result.Result.{Result}
use Rattle.std.proofs.lemmas.List.Elements.{Contains-append_cases}
use mathlib.Core.Bool.{true≢false}
use mathlib.Core.List.{head-eq_of_cons-eq, nil≢cons}
use Rattle.lalrpop_base.specs.Words.{Bits, has, IsFirstSet, Rules}
use Rattle.lalrpop_collections.proofs.theory.lists.Members.{Contains-none, contains-cons}
use Rattle.lalrpop_collections.specs.declared.memory.OutOfMemory.{OutOfMemory}
use Rattle.lalrpop_traces.specs.Words.{path_of, following, IsExampleOf, IsEnded, remaining, and_behind, to_come, GivesNext, LeavesOut, Meets, NoneMeets, IsSameFilter}
use Rattle.lalrpop_traces.specs.Words.{GivesNextMeeting, HasSkipped}
use Rattle.lalrpop_traces.specs.declared.trace.enumerator.EnumeratorState.{EnumeratorState}
use Rattle.lalrpop_traces.specs.declared.trace.enumerator.PathEnumerator.{PathEnumerator}
use Rattle.lalrpop_traces.specs.declared.trace.example.Example.{Example}
use Rattle.lalrpop_traces.specs.declared.trace.filtered.FilteredPathEnumerator.{FilteredPathEnumerator}
use Rattle.lalrpop_traces.specs.declared.trace.trace_graph.TraceGraph.{TraceGraph}

standing : (stack : List EnumeratorState) (rest : List (List ℕ)) → (stack ≡ [] → ⊥) → and_behind stack rest ≡ path_of stack ∷ rest
standing [] rest h = absurd (h refl)
standing (s ∷ stack) rest h = refl

-- a path that meets the lookahead later meets the same lookahead before
same_meets : (old new : FilteredPathEnumerator) → IsSameFilter old new → (path : List ℕ) → Meets new path → Meets old path
same_meets old new same path m = (
  m.0,
  subst (λ (g : TraceGraph). IsFirstSet old.first_sets.now (following g path) m.0) same.graph (subst (λ (r : Rules). IsFirstSet r (following new.base.graph.now path) m.0) same.first_sets m.1),
  m.2,
  m.3,
  subst (λ (b : Bits). IsTrue (has b m.2)) same.lookahead m.4,
)

pub same_again : (a b c : FilteredPathEnumerator) → IsSameFilter a b → IsSameFilter b c → IsSameFilter a c
same_again a b c h k = record { graph = k.graph ∙ h.graph; first_sets = k.first_sets ∙ h.first_sets; lookahead = k.lookahead ∙ h.lookahead }

-- a filtered walk with another walk below it
abbrev pub with_base : FilteredPathEnumerator → PathEnumerator → FilteredPathEnumerator
with_base walk base = record { alloc = walk.alloc; base = base; first_sets = walk.first_sets; lookahead = walk.lookahead; misses = walk.misses }

pub same_base : (old mid : FilteredPathEnumerator) (base : PathEnumerator) → IsSameFilter old mid → base.graph.now ≡ mid.base.graph.now → IsSameFilter old (with_base mid base)
same_base old mid base same graph = record { graph = graph ∙ same.graph; first_sets = same.first_sets; lookahead = same.lookahead }

back : (old new : FilteredPathEnumerator) → IsSameFilter old new → IsSameFilter new old
back old new same = record { graph = sym same.graph; first_sets = sym same.first_sets; lookahead = sym same.lookahead }

meets_same : (old new : FilteredPathEnumerator) → IsSameFilter old new → (path : List ℕ) → Meets old path → Meets new path
meets_same old new same path m = same_meets new old (back old new same) path m

-- the current path is passed over, and some that follow it
pub skipped_more : (old mid new : FilteredPathEnumerator) → HasSkipped old mid → IsSameFilter mid new → mid.base.refused ≡ false → (IsEnded mid.base → ⊥) → ¬ Meets mid (path_of mid.base.stack.items) → LeavesOut mid (remaining mid.base) (to_come new.base) → HasSkipped old new
skipped_more old mid new h same told stands none leaves =
    let path = path_of mid.base.stack.items in
    let past : List (List ℕ) = path ∷ leaves.dropped in
    record {
      same = same_again old mid new h.same same;
      told = λ _. h.told told;
      skipped = h.skipped ++ past;
      before = λ p c m. elim (Contains-append_cases h.skipped past p c) [
        | inl d ↦ h.before p d m
        | inr e ↦ elim (contains-cons path leaves.dropped p e) [
          | inl here ↦ none (subst (λ (q : List ℕ). Meets mid q) (sym here) (meets_same old mid h.same p m))
          | inr later ↦ leaves.none p later (meets_same old mid h.same p m)
        ]
      ];
      left = elim h.left [
        | inl e ↦ inl (e ∙ ap (λ xs. h.skipped ++ xs) (standing mid.base.stack.items (remaining mid.base) stands ∙ ap (λ xs. path ∷ xs) leaves.is) ∙ sym (append_assoc h.skipped past (to_come new.base)))
        | inr r ↦ absurd (true≢false (sym r ∙ told))
      ];
    }

-- ---- paths that are left out
pub leaves_none : (walk : FilteredPathEnumerator) (all rest : List (List ℕ)) → all ≡ rest → LeavesOut walk all rest
leaves_none walk all rest is = record { dropped = []; none = λ p c. absurd (Contains-none p c); is = is }

pub leaves_all : (walk : FilteredPathEnumerator) (paths rest : List (List ℕ)) → NoneMeets walk paths → LeavesOut walk (paths ++ rest) rest
leaves_all walk paths rest none = record { dropped = paths; none = none; is = refl }

-- some are left out, and then others
pub leaves_then : (old mid : FilteredPathEnumerator) (all some same rest : List (List ℕ)) → IsSameFilter old mid → LeavesOut old all some → same ≡ some → LeavesOut mid same rest → LeavesOut old all rest
leaves_then old mid all some same rest is first e second = record {
  dropped = first.dropped ++ second.dropped;
  none = λ p c m. elim (Contains-append_cases first.dropped second.dropped p c) [
    | inl f ↦ first.none p f m
    | inr s ↦ second.none p s (meets_same old mid is p m)
  ];
  is = first.is ∙ ap (λ xs. first.dropped ++ xs) (sym e ∙ second.is) ∙ sym (append_assoc first.dropped second.dropped rest);
}

-- the current path of the walk meets the lookahead
pub gives_standing : (old mid new : FilteredPathEnumerator) (r : Option (Result Example OutOfMemory)) → HasSkipped old mid → IsSameFilter mid new → (IsEnded mid.base → ⊥) → Meets mid (path_of mid.base.stack.items) → GivesNext mid.base r new.base → IsSameFilter old new × GivesNextMeeting old r new
gives_standing old mid new None h same stands meets g =
    absurd (nil≢cons (sym g.1 ∙ standing mid.base.stack.items (remaining mid.base) stands))
gives_standing old mid new (Some (Err e)) h same stands meets g = (same_again old mid new h.same same, g)
gives_standing old mid new (Some (Ok example)) h same stands meets g =
    let here : g.path ≡ path_of mid.base.stack.items = head-eq_of_cons-eq (sym g.first ∙ standing mid.base.stack.items (remaining mid.base) stands) in (
      same_again old mid new h.same same,
      record {
        path = g.path;
        skipped = h.skipped;
        rest = g.rest;
        spelled = subst (λ (graph : TraceGraph). IsExampleOf graph g.path example) h.same.graph g.spelled;
        first = elim h.left [ inl e ↦ e ∙ ap (λ xs. h.skipped ++ xs) g.first | inr r ↦ absurd (true≢false (sym r ∙ g.told)) ];
        before = h.before;
        meets = same_meets old mid h.same g.path (subst (λ (q : List ℕ). Meets mid q) (sym here) meets);
        others = g.others;
      },
    )

-- no path is left, or an allocation failure is to be reported
pub gives_last : (old mid new : FilteredPathEnumerator) (r : Option (Result Example OutOfMemory)) → HasSkipped old mid → IsSameFilter mid new → (mid.base.refused ≡ true) ⊎ IsEnded mid.base → GivesNext mid.base r new.base → IsSameFilter old new × GivesNextMeeting old r new
gives_last old mid new (Some (Err e)) h same neither g = (same_again old mid new h.same same, g)
gives_last old mid new None h same neither g = (
  same_again old mid new h.same same,
  (
    h.told g.0,
    elim h.left [
      | inl e ↦ subst (λ (ps : List (List ℕ)). NoneMeets old ps) (sym (e ∙ ap (λ xs. h.skipped ++ xs) g.1 ∙ append-nil h.skipped)) h.before
      | inr r ↦ absurd (true≢false (sym r ∙ g.0))
    ],
    g.2,
    g.3,
  ),
)
gives_last old mid new (Some (Ok example)) h same neither g = elim neither [
  | inl r ↦ absurd (true≢false (sym r ∙ g.told))
  | inr ended ↦ absurd (nil≢cons (sym (ap (λ (xs : List EnumeratorState). and_behind xs (remaining mid.base)) ended) ∙ g.first))
]
