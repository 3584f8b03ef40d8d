-- The states of the construction are canonical, by their contents.
use Rattle.std.proofs.Common.{◌≡◌, ◌↔◌, ℕ, suc, Bool, true, List, length, map, refl, sym, ◌∙◌, ap, subst, Option, Some, None}
use Rattle.std.specs.Prelude.{Contains, slice_get}
use Rattle.lalrpop_base.specs.Words.{Bits, no_bits, with_bit, InTokenClosure, IsAtStart, IsAtStartWith, IsMovedWith, items_of, TokenKernelsDiffer}
use Rattle.lalrpop_base.specs.Words.{ReducesInOrder, contents, contents_at, holds_token, Dotted, AllDiffer, Contents, leads}
use Rattle.lalrpop_base.specs.Words.{productions, productions_of, rules_of, IsWellFormed, production_order, AreOwn, HasItemToken, InKernel, IsClosureOf}
use Rattle.lalrpop_construction.specs.Words.{tokens_of, AreCanonicalStates}
use Rattle.lalrpop_grammar.specs.states.States.{Reduction}
use Rattle.lalrpop_construction.proofs.Types.{Grammar, NonterminalString, Production, State, Symbol, Token}
use Rattle.lalrpop_states.specs.closures.Closure.{itself}
use Rattle.lalrpop_states.specs.states.Items.{dotted_of}
use Rattle.lalrpop_construction.specs.Words.{AreStatesOf, canonical_of}
use Rattle.lalrpop_base.specs.Words.{item_at_start}
use Rattle.lalrpop_construction.specs.states.Canonical.{item_has_token}
use Rattle.lalrpop_construction.proofs.theory.canonical.Canonical.{InTokenClosure-more, moved_tokens, start_items, start_tokens}
use Rattle.lalrpop_construction.proofs.theory.grammars.ItemTokens.{test_exact, one_item}
use Rattle.lalrpop_collections.proofs.theory.lists.Places.{one_place}
use Rattle.lalrpop_construction.proofs.theory.construction.Reductions.{no_reduction, reduction_from, reduces_in_order}
use Rattle.lalrpop_construction.proofs.theory.construction.SameKernels.{IsMovedKernel, Shifts-ascend, Shifts-past, kernel_tokens, same_kernels}
use Rattle.lalrpop_construction.proofs.theory.construction.Shifting.{Shifts-items}
use Rattle.lalrpop_construction.proofs.theory.construction.ClosedStates.{IsExactClosure, IsStep, closed, exactly_of, first_state, kernel_items, reached, reduces, start_closure, step_of}
use Rattle.lalrpop_collections.proofs.theory.lists.BothFacts.{then_both, turned_both}
use Rattle.lalrpop_construction.proofs.theory.closures.ValidClosures.{moved_with_along}

module _ (g : Grammar) (start : NonterminalString) (well : IsWellFormed g) (own : AreOwn g) (differ : AllDiffer g.terminals) (states : List (State Bits)) (made : AreStatesOf (canonical_of g start) states) where
  abbrev holds : Bits → Token → Bool
  holds = holds_token g.terminals

  abbrev now : ℕ → Contents
  now = contents g.terminals states

  abbrev Closes : List (Dotted Bits) → List (Dotted Bits) → Type 0
  Closes = IsClosureOf (rules_of g)

  abbrev eof : Bits
  eof = with_bit no_bits (length g.terminals)

  abbrev first : List (Dotted Bits)
  first = map (item_at_start eof) (productions_of g start)

  exactly : (kernel items : List (Dotted Bits)) → Closes kernel items → IsExactClosure (rules_of g) kernel items
  exactly = exactly_of (rules_of g)

  begins : (p : Production) (dot : ℕ) → InKernel first p dot ↔ IsAtStart (productions g) start p dot
  begins = start_items g well own start eof

  -- ---- the numbers that have a state
  closure_of : (n : ℕ) (s : State Bits) (at : slice_get states n ≡ Some s) → Closes (made.built.each n s at).kernel s.items.vec.items
  closure_of n s at = (made.built.each n s at).built.closure

  order_at : (n : ℕ) (o : Option (State Bits)) → slice_get states n ≡ o → ReducesInOrder production_order (contents_at holds o)
  order_at n None at = λ i j r q l at_i. cc
  order_at n (Some s) at = let b = made.built.each n s at in reduces_in_order holds s b.built.finished (closure_of n s at).ascend

  once_at : (n : ℕ) (o : Option (State Bits)) → slice_get states n ≡ o → AllDiffer (contents_at holds o).items
  once_at n None at = λ i j x l at_i. cc
  once_at n (Some s) at = (closure_of n s at).are_items.differ

  -- a reduction holds the tokens of its item
  held_at : (n : ℕ) (o : Option (State Bits)) → slice_get states n ≡ o → (r : Reduction) (t : Token) → Contains (contents_at holds o).reductions r → (r.holds t ≡ true) ↔ (item_has_token holds o r.production (length r.production.symbols) t ≡ true)
  held_at n None at r t c = absurd (no_reduction r c)
  held_at n (Some s) at r t c =
      let items = s.items.vec.items in
      let i = reduction_from holds s ((made.built.each n s at).built.finished) r c in
      let is : dotted_of i.0 ≡ ((i.0).production, length (i.0).production.symbols) = ap (λ (d : ℕ). ((i.0).production, d)) i.2 in
      subst (λ (q : Reduction). (q.holds t ≡ true) ↔ (item_has_token holds (Some s) q.production (length q.production.symbols) t ≡ true)) i.3
      (then_both (
        (λ h. record { item = i.0; there = i.1; is = is; holds = h }),
        (λ (h : HasItemToken g.terminals items (i.0).production (length (i.0).production.symbols) t).
            subst (λ (x : Dotted Bits). holds_token g.terminals x.lookahead t ≡ true) (one_item items (closure_of n s at).are_items.differ h.item i.0 h.there i.1 (h.is ∙ sym is)) h.holds),
      )
      (turned_both (test_exact g.terminals items (i.0).production (length (i.0).production.symbols) t)))

  -- ---- an edge, with its source and its target
  abbrev Step : ℕ → Symbol → ℕ → Type 0
  Step = IsStep holds (rules_of g) start Closes exactly first begins states made.built

  step : (n m : ℕ) (x : Symbol) → leads (now n) x ≡ Some m → Step n x m
  step = step_of holds (rules_of g) start Closes exactly first begins states made.built

  -- ---- the tokens of state 0
  starts_with : (p : Production) (dot : ℕ) (t : Token) → (tokens_of g.terminals states 0 p dot t ≡ true) ↔ InTokenClosure (productions g) (items_of now 0) (IsAtStartWith (productions g) start) p dot t
  starts_with p dot t =
      let s = first_state holds (rules_of g) start Closes exactly first begins states made.built in
      let c : Closes first (s.0).items.vec.items = start_closure holds (rules_of g) start Closes exactly first begins states made.built in
      let I : Production → ℕ → Type 0 = λ q d. Contains (map dotted_of (s.0).items.vec.items) (q, d) in
      let K : Production → ℕ → Token → Type 0 = HasItemToken g.terminals first in
      let A : Production → ℕ → Token → Type 0 = IsAtStartWith (productions g) start in
      let begin = start_tokens g well own start in
      subst (λ (o : Option (State Bits)). (item_has_token holds o p dot t ≡ true) ↔ InTokenClosure (productions g) (λ q d. Contains (contents_at holds o).items (q, d)) A p dot t) (sym s.1)
      (then_both (test_exact g.terminals (s.0).items.vec.items p dot t) (then_both (c.tokens p dot t) (
        InTokenClosure-more (productions g) I K A (λ q d u h. (begin q d u).0 h),
        InTokenClosure-more (productions g) I A K (λ q d u h. (begin q d u).1 h),
      )))

  -- ---- the tokens of the other states
  goes_with : (n m : ℕ) (x : Symbol) → leads (now n) x ≡ Some m → (p : Production) (dot : ℕ) (t : Token) → (tokens_of g.terminals states m p dot t ≡ true) ↔ InTokenClosure (productions g) (items_of now m) (IsMovedWith (λ q d u. tokens_of g.terminals states n q d u ≡ true) x) p dot t
  goes_with n m x e p dot t =
      let s = step n m x e in
      let items = s.target.items.vec.items in
      let from = s.source.items.vec.items in
      let I : Production → ℕ → Type 0 = λ q d. Contains (map dotted_of items) (q, d) in
      let K : Production → ℕ → Token → Type 0 = HasItemToken g.terminals s.kernel in
      let A : Production → ℕ → Token → Type 0 = HasItemToken g.terminals from in
      let B : Production → ℕ → Token → Type 0 = λ q d u. item_has_token holds (Some s.source) q d u ≡ true in
      let moved = moved_tokens x from s.kernel s.shifts g.terminals in
      let exact = λ (q : Production) (d : ℕ) (u : Token). test_exact g.terminals from q d u in
      subst (λ (o : Option (State Bits)). (item_has_token holds o p dot t ≡ true) ↔ InTokenClosure (productions g) (λ q d. Contains (contents_at holds o).items (q, d)) (IsMovedWith (λ q d u. tokens_of g.terminals states n q d u ≡ true) x) p dot t) (sym s.there)
      (subst (λ (o : Option (State Bits)). (item_has_token holds (Some s.target) p dot t ≡ true) ↔ InTokenClosure (productions g) I (IsMovedWith (λ q d u. item_has_token holds o q d u ≡ true) x) p dot t) (sym s.at)
      (then_both (test_exact g.terminals items p dot t) (then_both (s.closure.tokens p dot t) (
        InTokenClosure-more (productions g) I K (IsMovedWith B x) (λ q d u h. moved_with_along A B x (λ r k v. (exact r k v).1) q d u ((moved q d u).0 h)),
        InTokenClosure-more (productions g) I (IsMovedWith B x) K (λ q d u h. (moved q d u).1 (moved_with_along B A x (λ r k v. (exact r k v).0) q d u h)),
      ))))

  -- ---- no two states have the same kernel
  moved_kernel : (n m : ℕ) (x : Symbol) (s : Step n x m) → IsMovedKernel (rules_of g) s.kernel
  moved_kernel n m x s =
      let items = s.source.items.vec.items in
      let c = closure_of n s.source s.at in record {
        of = Shifts-items itself (rules_of g) x items s.kernel s.shifts c.are_items;
        ascend = Shifts-ascend x items s.kernel s.shifts c.ascend;
        past = Shifts-past x items s.kernel s.shifts;
      }

  kernels_differ : TokenKernelsDiffer now (λ n p dot t. tokens_of g.terminals states n p dot t ≡ true)
  kernels_differ k l n m x y e f items tokens =
      let s = step k n x e in
      let u = step l m y f in
      let at_n = s.target.items.vec.items in
      let at_m = u.target.items.vec.items in
      let same_items = λ (p : Production) (d : ℕ).
      subst (λ (o : Option (State Bits)). Contains (map dotted_of at_n) (p, suc d) ↔ Contains (contents_at holds o).items (p, suc d)) u.there
      (subst (λ (o : Option (State Bits)). Contains (contents_at holds o).items (p, suc d) ↔ items_of now m p (suc d)) s.there (items p d)) in
      let same_tests = λ (p : Production) (d : ℕ) (t : Token).
      subst (λ (o : Option (State Bits)). (item_has_token holds (Some s.target) p (suc d) t ≡ true) ↔ (item_has_token holds o p (suc d) t ≡ true)) u.there
      (subst (λ (o : Option (State Bits)). (item_has_token holds o p (suc d) t ≡ true) ↔ (tokens_of g.terminals states m p (suc d) t ≡ true)) s.there (tokens p d t)) in
      let same = same_kernels (rules_of g) differ s.kernel u.kernel (moved_kernel k n x s) (moved_kernel l m y u)
      (λ p d. then_both (kernel_items (rules_of g) s.kernel at_n (exactly s.kernel at_n s.closure) p d) (then_both (same_items p d) (turned_both (kernel_items (rules_of g) u.kernel at_m (exactly u.kernel at_m u.closure) p d))))
      (λ p d t. then_both (kernel_tokens (rules_of g) s.kernel at_n s.closure p d t) (then_both (turned_both (test_exact g.terminals at_n p (suc d) t)) (then_both (same_tests p d t) (then_both (test_exact g.terminals at_m p (suc d) t) (turned_both (kernel_tokens (rules_of g) u.kernel at_m u.closure p d t)))))) in
      one_place made.built.kernels made.built.differ n m s.kernel s.numbered (u.numbered ∙ ap Some (sym same))

  -- ---- the states are canonical
  pub are_canonical : AreCanonicalStates (rules_of g) start states
  are_canonical = record {
    canonical = record {
      closed = closed holds (rules_of g) start Closes exactly first begins states made.built;
      reductions = reduces holds (rules_of g) start Closes exactly first begins states made.built;
      first = starts_with;
      next = goes_with;
      holds = λ n. held_at n (slice_get states n) refl;
    };
    once = λ n. once_at n (slice_get states n) refl;
    differ = kernels_differ;
    reached = reached holds (rules_of g) start Closes exactly first begins states made.built;
    ascend = λ n. order_at n (slice_get states n) refl;
  }
