-- The states that a construction makes from kernels, with any lookahead, are closed: state 0 is the
-- closure of the start, and each target that of the moved items.
use Rattle.std.proofs.Common.{◌≡◌, ◌↔◌, ℕ, suc, ◌<◌, ◌⊎◌, Bool, List, length, map, refl, sym, ◌∙◌, ap, subst, arith, Option, Some, None}
use Rattle.std.specs.Prelude.{Contains, slice_get}
use Rattle.std.proofs.lemmas.Option.{slice_get_within}
use Rattle.lalrpop_base.specs.Words.{Bits, InClosure, in_kernel, IsAtStart, IsClosureOf, IsMoved, items_of, AreClosed, IsReached, KernelsDiffer, contents_of, contents_at}
use Rattle.lalrpop_base.specs.Words.{contents_in, Dotted, Contents, leads, LeadsOverDots, ReducesFinished, Rules, Ascend, InKernel}
use Rattle.lalrpop_construction.proofs.Types.{NonterminalString, Production, State, Symbol, Token}
use Rattle.lalrpop_states.specs.states.Items.{dotted_of}
use Rattle.lalrpop_base.specs.Words.{AreBuiltBy, Shifts}
use Rattle.lalrpop_construction.proofs.theory.canonical.Canonical.{InClosure-more, moved_items}
use Rattle.lalrpop_construction.proofs.theory.construction.Coherence.{Built-some}
use Rattle.lalrpop_collections.proofs.theory.lists.Places.{same_some, filled, one_place}
use Rattle.lalrpop_construction.proofs.theory.construction.Reductions.{nothing_reduced, reduces_finished}
use Rattle.lalrpop_construction.proofs.theory.construction.SameKernels.{past_in_kernel}
use Rattle.lalrpop_construction.proofs.theory.construction.StateEdges.{leads_transition, leads_over_dots, nowhere_leads, no_leads, all_reached}
use Rattle.lalrpop_collections.proofs.theory.lists.BothFacts.{turned_both, then_both}

-- the items are exactly the closure of the kernel, ascending, with any lookaheads
pub record IsExactClosure {L : Type 0} (g : Rules) (kernel items : List (Dotted L)) : Type 0 where
  pub exact : (p : Production) (dot : ℕ) → Contains (map dotted_of items) (p, dot) ↔ InClosure g.productions (InKernel kernel) p dot
  pub ascend : Ascend items
  pub begun : (i : Dotted L) → Contains items i → (i.index ≡ 0) ⊎ InKernel kernel i.production i.index

-- the kernel has exactly the dotted productions of its closure whose dot is past the start
pub kernel_items : {L : Type 0} (g : Rules) (kernel items : List (Dotted L)) → IsExactClosure g kernel items → (p : Production) (d : ℕ) → InKernel kernel p (suc d) ↔ Contains (map dotted_of items) (p, suc d)
kernel_items g kernel items c p d = (
  λ k. (c.exact p (suc d)).1 (in_kernel k),
  λ h. past_in_kernel g.productions (InKernel kernel) d refl ((c.exact p (suc d)).0 h),
)

-- a closure with sets of tokens is an exact closure
pub exactly_of : (g : Rules) (kernel items : List (Dotted Bits)) → IsClosureOf g kernel items → IsExactClosure g kernel items
exactly_of g kernel items c = record { exact = c.exact; ascend = c.ascend; begun = c.begun }

module _ {L : Type 0} (holds : L → Token → Bool) (g : Rules) (start : NonterminalString) (Closes : List (Dotted L) → List (Dotted L) → Type 0) (closes : (kernel items : List (Dotted L)) → Closes kernel items → IsExactClosure g kernel items)
    (first : List (Dotted L)) (begins : (p : Production) (dot : ℕ) → InKernel first p dot ↔ IsAtStart g.productions start p dot) (states : List (State L)) (built : AreBuiltBy Closes first states) where
  abbrev now : ℕ → Contents
  now = contents_in holds states

  ascend_of : (n : ℕ) (s : State L) (at : slice_get states n ≡ Some s) → Ascend s.items.vec.items
  ascend_of n s at = (closes (built.each n s at).kernel s.items.vec.items (built.each n s at).built.closure).ascend

  -- ---- an edge, with its source and its target
  pub record IsStep (n : ℕ) (x : Symbol) (m : ℕ) : Type 0 where
    pub source : State L
    pub at : slice_get states n ≡ Some source
    pub target : State L
    pub there : slice_get states m ≡ Some target
    pub kernel : List (Dotted L)
    pub numbered : slice_get built.kernels m ≡ Some kernel
    pub shifts : Shifts x source.items.vec.items kernel
    pub closure : Closes kernel target.items.vec.items

  step_over : (n m : ℕ) (s : State L) (x : Symbol) → slice_get states n ≡ Some s → leads (contents_of holds s) x ≡ Some m → IsStep n x m
  step_over n m s x at e =
      let edge = leads_transition holds s x m e in
      let over = ((built.each n s at).built).leads x edge.0 edge.2 in
      let number : slice_get built.kernels m ≡ Some over.kernel = ap (slice_get built.kernels) (sym edge.1) ∙ over.numbered in
      let within = slice_get_within built.kernels m over.kernel number in
      let same = built.counted in
      let to = filled states m (omega arith) in
      let b = built.each m to.0 to.1 in
      let kernels : b.kernel ≡ over.kernel = same_some b.kernel over.kernel (sym b.numbered ∙ number) in
      record {
        source = s;
        at = at;
        target = to.0;
        there = to.1;
        kernel = over.kernel;
        numbered = number;
        shifts = over.shifts;
        closure = subst (λ (k : List (Dotted L)). Closes k to.0.items.vec.items) kernels b.built.closure;
      }

  step_at : (n m : ℕ) (x : Symbol) (o : Option (State L)) → slice_get states n ≡ o → leads (contents_at holds o) x ≡ Some m → IsStep n x m
  step_at n m x None at e = absurd (no_leads x m e)
  step_at n m x (Some s) at e = step_over n m s x at e

  pub step_of : (n m : ℕ) (x : Symbol) → leads (now n) x ≡ Some m → IsStep n x m
  step_of n m x e = step_at n m x (slice_get states n) refl e

  -- ---- state 0
  pub first_state : (s : State L) × (slice_get states 0 ≡ Some s)
  first_state = filled states 0 (Built-some Closes (λ k is c. (closes k is c).begun) first states built)

  pub start_closure : Closes first (first_state.0).items.vec.items
  start_closure =
      let b = built.each 0 first_state.0 first_state.1 in
      subst (λ (k : List (Dotted L)). Closes k (first_state.0).items.vec.items) (same_some b.kernel first (sym b.numbered ∙ built.start)) b.built.closure

  starts : (p : Production) (dot : ℕ) → items_of now 0 p dot ↔ InClosure g.productions (IsAtStart g.productions start) p dot
  starts p dot =
      subst (λ (o : Option (State L)). Contains (contents_at holds o).items (p, dot) ↔ InClosure g.productions (IsAtStart g.productions start) p dot) (sym first_state.1)
      (then_both ((closes first (first_state.0).items.vec.items start_closure).exact p dot) (
        InClosure-more g.productions (InKernel first) (IsAtStart g.productions start) (λ q d h. (begins q d).0 h),
        InClosure-more g.productions (IsAtStart g.productions start) (InKernel first) (λ q d h. (begins q d).1 h),
      ))

  -- ---- the other states
  goes : (n m : ℕ) (x : Symbol) → leads (now n) x ≡ Some m → (p : Production) (dot : ℕ) → items_of now m p dot ↔ InClosure g.productions (IsMoved (items_of now n) x) p dot
  goes n m x e p dot =
      let s = step_of n m x e in
      let moved = moved_items x s.source.items.vec.items s.kernel s.shifts in
      let M : Production → ℕ → Type 0 = IsMoved (λ q d. Contains (map dotted_of s.source.items.vec.items) (q, d)) x in
      subst (λ (o : Option (State L)). Contains (contents_at holds o).items (p, dot) ↔ InClosure g.productions (IsMoved (items_of now n) x) p dot) (sym s.there)
      (subst (λ (o : Option (State L)). Contains (map dotted_of s.target.items.vec.items) (p, dot) ↔ InClosure g.productions (IsMoved (λ q d. Contains (contents_at holds o).items (q, d)) x) p dot) (sym s.at)
      (then_both ((closes s.kernel s.target.items.vec.items s.closure).exact p dot) (
        InClosure-more g.productions (InKernel s.kernel) M (λ q d h. (moved q d).0 h),
        InClosure-more g.productions M (InKernel s.kernel) (λ q d h. (moved q d).1 h),
      )))

  edges_at : (n : ℕ) (o : Option (State L)) → slice_get states n ≡ o → LeadsOverDots (contents_at holds o)
  edges_at n None at = nowhere_leads
  edges_at n (Some s) at = let b = built.each n s at in leads_over_dots holds Closes built.kernels b.kernel n s b.built

  pub closed : AreClosed g.productions start now
  closed = record { first = starts; next = goes; edges = λ n. edges_at n (slice_get states n) refl }

  reductions_at : (n : ℕ) (o : Option (State L)) → slice_get states n ≡ o → ReducesFinished (contents_at holds o)
  reductions_at n None at = nothing_reduced
  reductions_at n (Some s) at = let b = built.each n s at in reduces_finished holds s b.built.finished (ascend_of n s at)

  pub reduces : (n : ℕ) → ReducesFinished (now n)
  reduces n = reductions_at n (slice_get states n) refl

  pub reached : (n : ℕ) → n < length states → IsReached now n
  reached = all_reached holds Closes first states built

  -- a state with an edge is reached
  pub source_reached : (n m : ℕ) (x : Symbol) → leads (now n) x ≡ Some m → IsReached now n
  source_reached n m x e = let s = step_of n m x e in reached n (slice_get_within states n s.source s.at)

  -- ---- kernels differ, if kernels of moved items with the same dotted productions are the same
  module _ (same : (x y : Symbol) (a b is js : List (Dotted L)) → Shifts x is a → Shifts y js b → Ascend is → Ascend js → ((p : Production) (d : ℕ) → InKernel a p (suc d) ↔ InKernel b p (suc d)) → a ≡ b) where
    pub kernels_differ : KernelsDiffer now
    kernels_differ k l n m x y e f items =
        let s = step_of k n x e in
        let u = step_of l m y f in
        let same_items = λ (p : Production) (d : ℕ).
        subst (λ (o : Option (State L)). Contains (map dotted_of s.target.items.vec.items) (p, suc d) ↔ Contains (contents_at holds o).items (p, suc d)) u.there
        (subst (λ (o : Option (State L)). Contains (contents_at holds o).items (p, suc d) ↔ items_of now m p (suc d)) s.there (items p d)) in
        let one = same x y s.kernel u.kernel s.source.items.vec.items u.source.items.vec.items s.shifts u.shifts (ascend_of k s.source s.at) (ascend_of l u.source u.at)
        (λ p d. then_both (kernel_items g s.kernel s.target.items.vec.items (closes s.kernel s.target.items.vec.items s.closure) p d) (then_both (same_items p d) (turned_both (kernel_items g u.kernel u.target.items.vec.items (closes u.kernel u.target.items.vec.items u.closure) p d)))) in
        one_place built.kernels built.differ n m s.kernel s.numbered (u.numbered ∙ ap Some (sym one))
