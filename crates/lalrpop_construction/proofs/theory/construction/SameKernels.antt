-- Kernels with the same dotted productions and tokens are the same, since their items ascend.
use Rattle.std.proofs.Common.{◌≡◌, ◌↔◌, ℕ, suc, ◌+◌, inl, inr, true, List, map, refl, sym, ◌∙◌, ap, subst, arith}
use Rattle.std.specs.Prelude.{Contains}
use Rattle.lalrpop_base.specs.Words.{Bits, InClosure, in_kernel, expanded, InTokenClosure, with_token, begins_rest, inherits, holds_token, Dotted, AllDiffer, Rules}
use Rattle.lalrpop_base.specs.Words.{Precedes, Ascend, InKernel, HasItemToken, AreItems, IsClosureOf, shifted, Shifts}
use Rattle.lalrpop_construction.proofs.Types.{Production, Symbol, Token}
use Rattle.lalrpop_collections.proofs.theory.lists.Ascending.{ascending_same}
use Rattle.lalrpop_grammar.proofs.theory.conflicts.ConflictLists.{ordered-cons, ordered-head, ordered-tail}
use Rattle.lalrpop_states.specs.states.Items.{dotted_of}
use Rattle.lalrpop_states.specs.construction.Transitions.Shifts.{none, moves, stays}
use Rattle.lalrpop_states.proofs.theory.grammars.AscendingItems.{precedes_asymmetric}
use Rattle.lalrpop_construction.proofs.theory.grammars.ItemTokens.{one_item, same_tokens}
use Rattle.lalrpop_collections.proofs.theory.lists.Members.{contains_map}
use Rattle.lalrpop_construction.proofs.theory.construction.Shifting.{Shifts-from, of_dotted}

-- ---- moved items ascend
module _ {L : Type 0} where
  moved_precedes : (i j : Dotted L) → Precedes i j → Precedes (shifted i) (shifted j)
  moved_precedes i j (inl h) = inl h
  moved_precedes i j (inr h) = let l = h.1 in inr (h.0, omega arith)

  pub Shifts-ascend : (x : Symbol) (items kernel : List (Dotted L)) → Shifts x items kernel → Ascend items → Ascend kernel
  Shifts-ascend x items kernel none a = a
  Shifts-ascend x items kernel (moves {i} {items = is} {kernel = ks} b s) a =
      ordered-cons Precedes (shifted i) ks
      (λ j c. let f = Shifts-from x is ks s j c in subst (Precedes (shifted i)) f.is (moved_precedes i f.item (ordered-head Precedes i is a f.item f.among)))
      (Shifts-ascend x is ks s (ordered-tail Precedes i is a))
  Shifts-ascend x items kernel (stays {i} {items = is} {kernel = ks} b s) a = Shifts-ascend x is ks s (ordered-tail Precedes i is a)

  -- the dots of moved items are past the start
  pub Shifts-past : (x : Symbol) (items kernel : List (Dotted L)) → Shifts x items kernel → (i : Dotted L) → Contains kernel i → (d : ℕ) × (i.index ≡ suc d)
  Shifts-past x items kernel s i c =
      let f = Shifts-from x items kernel s i c in
      let e : i.index ≡ f.item.index + 1 = ap (λ (j : Dotted L). j.index) (sym f.is) in
      (f.item.index, omega arith)

-- ---- the items of a closure whose dot is past the start are those of its kernel
module _ (g : List Production) where
  pub past_in_kernel : (K : Production → ℕ → Type 0) {p : Production} {dot : ℕ} (d : ℕ) → dot ≡ suc d → InClosure g K p dot → K p dot
  past_in_kernel K d e (in_kernel k) = k
  past_in_kernel K d e (expanded q after c behind among) = absurd (omega arith)

  past_token : (I : Production → ℕ → Type 0) (K : Production → ℕ → Token → Type 0) {p : Production} {dot : ℕ} {t : Token} (d : ℕ) → dot ≡ suc d → InTokenClosure g I K p dot t → K p dot t
  past_token I K d e (with_token k) = k
  past_token I K d e (begins_rest q after i behind among f) = absurd (omega arith)
  past_token I K d e (inherits q after c behind among n) = absurd (omega arith)

module _ (g : Rules) (kernel items : List (Dotted Bits)) (c : IsClosureOf g kernel items) (p : Production) (d : ℕ) where
  pub kernel_tokens : (t : Token) → HasItemToken g.terminals kernel p (suc d) t ↔ HasItemToken g.terminals items p (suc d) t
  kernel_tokens t = (
    λ k. (c.tokens p (suc d) t).1 (with_token k),
    λ h. past_token g.productions (λ q n. Contains (map dotted_of items) (q, n)) (HasItemToken g.terminals kernel) d refl ((c.tokens p (suc d) t).0 h),
  )

-- ---- kernels
-- the kernel is one of moved items
pub record IsMovedKernel (g : Rules) (kernel : List (Dotted Bits)) : Type 0 where
  pub of : AreItems g kernel
  pub ascend : Ascend kernel
  pub past : (i : Dotted Bits) → Contains kernel i → (d : ℕ) × (i.index ≡ suc d)

module _ (g : Rules) (differ : AllDiffer g.terminals) where
  abbrev SameItems : List (Dotted Bits) → List (Dotted Bits) → Type 0
  SameItems a b = (p : Production) (d : ℕ) → InKernel a p (suc d) ↔ InKernel b p (suc d)

  abbrev SameTokens : List (Dotted Bits) → List (Dotted Bits) → Type 0
  SameTokens a b = (p : Production) (d : ℕ) (t : Token) → HasItemToken g.terminals a p (suc d) t ↔ HasItemToken g.terminals b p (suc d) t

  -- a token of an item is one of the item with the same dotted production
  token_over : (a b : List (Dotted Bits)) (i j : Dotted Bits) (d : ℕ) → AreItems g b → Contains a i → Contains b j → dotted_of j ≡ dotted_of i → i.index ≡ suc d → ((p : Production) (n : ℕ) (t : Token) → HasItemToken g.terminals a p (suc n) t → HasItemToken g.terminals b p (suc n) t) →
      (t : Token) → holds_token g.terminals i.lookahead t ≡ true → holds_token g.terminals j.lookahead t ≡ true
  token_over a b i j d of c k e at more t h =
      let into = more i.production d t (record { item = i; there = c; is = ap (λ (n : ℕ). (i.production, n)) at; holds = h }) in
      let same : into.item ≡ j = one_item b of.differ into.item j into.there k (into.is ∙ ap (λ (n : ℕ). (i.production, n)) (sym at) ∙ sym e) in
      subst (λ (x : Dotted Bits). holds_token g.terminals x.lookahead t ≡ true) same into.holds

  same_item : (i j : Dotted Bits) → dotted_of j ≡ dotted_of i → i.lookahead ≡ j.lookahead → j ≡ i
  same_item i j e l =
      let make : Production × ℕ → Bits → Dotted Bits = λ d s. record { production = d.0; index = d.1; lookahead = s } in
      ap (λ (d : Production × ℕ). make d j.lookahead) e ∙ ap (λ (s : Bits). make (dotted_of i) s) (sym l)

  -- each item of one is an item of the other
  item_over : (a b : List (Dotted Bits)) → IsMovedKernel g a → IsMovedKernel g b → SameItems a b → SameTokens a b → (i : Dotted Bits) → Contains a i → Contains b i
  item_over a b m n items tokens i c =
      let d = m.past i c in
      let e : dotted_of i ≡ (i.production, suc d.0) = ap (λ (k : ℕ). (i.production, k)) d.1 in
      let there = (items i.production d.0).0 (subst (Contains (map dotted_of a)) e (contains_map dotted_of a i c)) in
      let j = of_dotted b (i.production, suc d.0) there in
      let same : dotted_of j.0 ≡ dotted_of i = j.2 ∙ sym e in
      let at : (j.0).index ≡ suc d.0 = ap (λ (x : Production × ℕ). x.1) j.2 in
      let looked = same_tokens g.terminals differ i.lookahead (j.0).lookahead (m.of.each i c).tokens (n.of.each j.0 j.1).tokens (λ t. (
        token_over a b i j.0 d.0 n.of c j.1 same d.1 (λ p k u. (tokens p k u).0) t,
        token_over b a j.0 i d.0 m.of j.1 c (sym same) at (λ p k u. (tokens p k u).1) t,
      )) in
      subst (Contains b) (same_item i j.0 same looked) j.1

  pub same_kernels : (a b : List (Dotted Bits)) → IsMovedKernel g a → IsMovedKernel g b → SameItems a b → SameTokens a b → a ≡ b
  same_kernels a b m n items tokens =
      ascending_same Precedes precedes_asymmetric a b m.ascend n.ascend
      (item_over a b m n items tokens)
      (item_over b a n m (λ p d. ((items p d).1, (items p d).0)) (λ p d t. ((tokens p d t).1, (tokens p d t).0)))
