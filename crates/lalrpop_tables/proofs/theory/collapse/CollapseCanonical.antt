-- Canonical states can be collapsed: those with the same dotted productions lead by the same
-- symbols to the same dotted productions.
use Rattle.std.proofs.Common.{◌≡◌, ℕ, ◌+◌, List, [], ◌∷◌, refl, sym, ◌∙◌, ap, subst, arith, Some}
use Rattle.std.specs.Prelude.{Contains, slice_get, IfSome}
use Rattle.std.specs.BTreeMap.{BTreeMap, get}
use Rattle.std.specs.Cmp.{IsTotalOrder}
use Rattle.std.specs.declared.cmp.Ordering.{Ordering}
use Rattle.std.proofs.lemmas.Map.Lookups.{CmpEqualImpliesEq}
use Rattle.std.proofs.lemmas.Map.Views.{IfSome-get}
use Rattle.std.proofs.lemmas.Option.{slice_get_within}
use Rattle.lalrpop_base.specs.Words.{Bits, dots, dots_of, dots_at, IsAlikeTo, AreCollapsible, Dotted, rules_of, productions, InKernel, IsClosureOf}
use Rattle.lalrpop_tables.specs.Words.{dots_in}
use Rattle.lalrpop_grammar.specs.contracts.repr.NonterminalStringOrd.TheImpl as name_ord
use Rattle.lalrpop_grammar.specs.contracts.repr.TerminalStringOrd.TheImpl as terminal_ord
use Rattle.lalrpop_tables.proofs.Types.{Grammar, NonterminalString, Production, State, StateIndex, Symbol}
use Rattle.lalrpop_grammar.specs.declared.repr.Symbol.TheVariants.{Nonterminal, Terminal}
use Rattle.lalrpop_states.proofs.theory.states.ContentsViews.{terminals_ordered, names_ordered}
use Rattle.lalrpop_construction.specs.Words.{AreStatesOf, canonical_of}
use Rattle.lalrpop_base.specs.Words.{HasTransition, IsBehind, Shifts}
use Rattle.lalrpop_states.specs.construction.Transitions.Shifts.{none, moves, stays}
use Rattle.lalrpop_construction.proofs.theory.canonical.Canonical.{InClosure-more}
use Rattle.lalrpop_tables.proofs.theory.collapse.CollapseDots.{same_dots}
use Rattle.lalrpop_collections.proofs.theory.lists.Places.{contains_at, same_some, filled}

-- ---- the same symbol moves the same dotted productions
abbrev Dot : Type 0
Dot = Production × ℕ

abbrev tail_of : List Dot → List Dot
tail_of [] = []
tail_of (d ∷ ds) = ds

same_head : (d e : Dot) (ds es : List Dot) → d ∷ ds ≡ e ∷ es → d ≡ e
same_head d e ds es same = same_some d e (ap (λ (xs : List Dot). slice_get xs 0) same)

same_tail : (d e : Dot) (ds es : List Dot) → d ∷ ds ≡ e ∷ es → ds ≡ es
same_tail d e ds es same = ap tail_of same

module _ {L : Type 0} where
  abbrev dot_of : Dotted L → Dot
  dot_of i = (i.production, i.index)

  behind_over : (x : Symbol) (i j : Dotted L) → dot_of i ≡ dot_of j → IsBehind x i → IsBehind x j
  behind_over x i j same b = subst (λ (d : Dot). slice_get d.0.symbols d.1 ≡ Some x) same b

  same_moves : (x : Symbol) (xs ys ks ls : List (Dotted L)) → dots xs ≡ dots ys → Shifts x xs ks → Shifts x ys ls → dots ks ≡ dots ls
  same_moves x xs ys ks ls same none none = refl
  same_moves x xs ys ks ls same none (moves b s) = cc
  same_moves x xs ys ks ls same none (stays b s) = cc
  same_moves x xs ys ks ls same (moves b s) none = cc
  same_moves x xs ys ks ls same (stays b s) none = cc
  same_moves x xs ys ks ls same (moves {i} {items = is} {kernel = ms} b s) (moves {i = j} {items = js} {kernel = ns} c t) =
      let head = same_head (dot_of i) (dot_of j) (dots is) (dots js) same in
      ap (λ (d : Dot). (d.0, d.1 + 1) ∷ dots ms) head ∙ ap (λ (ds : List Dot). (j.production, j.index + 1) ∷ ds) (same_moves x is js ms ns (same_tail (dot_of i) (dot_of j) (dots is) (dots js) same) s t)
  same_moves x xs ys ks ls same (moves {i} {items = is} {kernel = ms} b s) (stays {i = j} {items = js} {kernel = ns} c t) =
      absurd (c (behind_over x i j (same_head (dot_of i) (dot_of j) (dots is) (dots js) same) b))
  same_moves x xs ys ks ls same (stays {i} {items = is} {kernel = ms} b s) (moves {i = j} {items = js} {kernel = ns} c t) =
      absurd (b (behind_over x j i (sym (same_head (dot_of i) (dot_of j) (dots is) (dots js) same)) c))
  same_moves x xs ys ks ls same (stays {i} {items = is} {kernel = ms} b s) (stays {i = j} {items = js} {kernel = ns} c t) =
      same_moves x is js ms ns (same_tail (dot_of i) (dot_of j) (dots is) (dots js) same) s t

module _ (g : Grammar) (start : NonterminalString) (states : List (State Bits)) (made : AreStatesOf (canonical_of g start) states) where
  -- ---- the target of a transition
  record IsTarget (s : State Bits) (x : Symbol) (target : StateIndex) : Type 0 where
    pub kernel : List (Dotted Bits)
    pub shifts : Shifts x s.items.vec.items kernel
    pub to : State Bits
    pub there : slice_get states target.0 ≡ Some to
    pub closure : IsClosureOf (rules_of g) kernel to.items.vec.items

  target_of : (n : ℕ) (s : State Bits) (x : Symbol) (target : StateIndex) → slice_get states n ≡ Some s → HasTransition x target s → IsTarget s x target
  target_of n s x target at h =
      let over = ((made.built.each n s at).built).leads x target h in
      let within = slice_get_within made.built.kernels target.0 over.kernel over.numbered in
      let counted = made.built.counted in
      let to = filled states target.0 (omega arith) in
      let b = made.built.each target.0 to.0 to.1 in
      let kernels : b.kernel ≡ over.kernel = same_some b.kernel over.kernel (sym b.numbered ∙ over.numbered) in
      record { kernel = over.kernel; shifts = over.shifts; to = to.0; there = to.1; closure = subst (λ (k : List (Dotted Bits)). IsClosureOf (rules_of g) k to.0.items.vec.items) kernels b.built.closure }

  -- closures of the same dotted productions have the same dotted productions
  closures_over : (ks ls xs ys : List (Dotted Bits)) → dots ks ≡ dots ls → IsClosureOf (rules_of g) ks xs → IsClosureOf (rules_of g) ls ys → (d : Dot) → Contains (dots xs) d → Contains (dots ys) d
  closures_over ks ls xs ys same a b d h =
      (b.exact d.0 d.1).1 (InClosure-more (productions g) (InKernel ks) (InKernel ls) (λ p n k. subst (λ (ds : List Dot). Contains ds (p, n)) same k) ((a.exact d.0 d.1).0 h))

  same_closures : (ks ls xs ys : List (Dotted Bits)) → dots ks ≡ dots ls → IsClosureOf (rules_of g) ks xs → IsClosureOf (rules_of g) ls ys → dots xs ≡ dots ys
  same_closures ks ls xs ys same a b = same_dots xs ys a.ascend b.ascend (closures_over ks ls xs ys same a b) (closures_over ls ks ys xs (sym same) b a)

  same_targets : (n m : ℕ) (s u : State Bits) (x : Symbol) (a b : StateIndex) → slice_get states n ≡ Some s → slice_get states m ≡ Some u → dots_in s ≡ dots_in u → HasTransition x a s → HasTransition x b u → dots_at states a.0 ≡ dots_at states b.0
  same_targets n m s u x a b at_n at_m same h k =
      let t = target_of n s x a at_n h in
      let v = target_of m u x b at_m k in
      let kernels = same_moves x s.items.vec.items u.items.vec.items t.kernel v.kernel same t.shifts v.shifts in
      ap dots_of t.there ∙ same_closures t.kernel v.kernel t.to.items.vec.items v.to.items.vec.items kernels t.closure v.closure ∙ ap dots_of (sym v.there)

  -- the target that a map has at a key is one of its entries
  entry_of : {K : Type 0} {R : K → K → Ordering} → IsTotalOrder R → CmpEqualImpliesEq R → (edges : BTreeMap K StateIndex) (key : K) (target : StateIndex) → get R edges key ≡ Some target → Contains edges.entries (key, target)
  entry_of {R = R} total exact edges key target e = subst (λ o. IfSome o (λ v. Contains edges.entries (key, v))) e (IfSome-get total exact edges key)

  alike : (n m : ℕ) (s u : State Bits) → slice_get states n ≡ Some s → slice_get states m ≡ Some u → IsAlikeTo states s u
  alike n m s u at_n at_m same = record {
    shifts = λ k e at other found. same_targets n m s u (Terminal e.0) e.1 other at_n at_m same (contains_at s.shifts.entries e k at) (entry_of terminal_ord.Laws.total-law terminals_ordered u.shifts e.0 other found);
    gotos = λ k e at other found. same_targets n m s u (Nonterminal e.0) e.1 other at_n at_m same (contains_at s.gotos.entries e k at) (entry_of name_ord.Laws.total-law names_ordered u.gotos e.0 other found);
  }

  pub Canonical-collapsible : AreCollapsible states
  Canonical-collapsible = record { coherent = made.coherent; alike = λ n s at_n m u at_m. alike n m s u at_n at_m }
