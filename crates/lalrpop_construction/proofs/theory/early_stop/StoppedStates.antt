-- The states that a construction has made when it stops are those of live prefixes, and no two are
-- the same.
use Rattle.std.proofs.Common.{◌≡◌, ◌↔◌, ℕ, suc, ◌<◌, inl, inr, List, [], ◌∷◌, ◌++◌, length, map, drop, refl, sym, subst, arith, Some}
use Rattle.std.specs.Prelude.{Contains, slice_get}
use Rattle.lalrpop_base.specs.Words.{Bits, no_bits, with_bit, InClosure, InTokenClosure, IsAtStart, IsAtStartWith, IsMoved, IsMovedWith, Dotted, AllDiffer}
use Rattle.lalrpop_base.specs.Words.{Valid, shifts, ValidToken, rules_of, productions, productions_of, IsWellFormed, AreOwn, InKernel, HasItemToken, IsClosureOf}
use Rattle.lalrpop_construction.proofs.Types.{Grammar, NonterminalString, Production, State, StateIndex, Symbol, Token}
use Rattle.lalrpop_states.specs.closures.Closure.{itself}
use Rattle.lalrpop_states.specs.states.Items.{dotted_of}
use Rattle.lalrpop_construction.specs.Words.{ArePartlyBuilt, HasDotted, IsStateFor, HaveSameContents, AreSomeCanonicalStates}
use Rattle.lalrpop_base.specs.Words.{item_at_start, HasTransition}
use Rattle.lalrpop_construction.proofs.theory.canonical.Canonical.{start_items, start_tokens, moved_items, moved_tokens, InClosure-more}
use Rattle.lalrpop_states.proofs.theory.closures.Closing.{drop_split}
use Rattle.lalrpop_collections.proofs.theory.lists.Members.{contains_map}
use Rattle.lalrpop_construction.proofs.theory.construction.SameKernels.{Shifts-ascend, Shifts-past, kernel_tokens, IsMovedKernel, same_kernels}
use Rattle.lalrpop_construction.proofs.theory.early_stop.PartlyBuilt.{IsMovedFrom, apart, each_is, first_kernel, moved_from, over_kernel}
use Rattle.lalrpop_construction.proofs.theory.construction.ClosedStates.{exactly_of, kernel_items}
use Rattle.lalrpop_construction.proofs.theory.construction.Shifting.{Shifts-items, begun_zero}
use Rattle.lalrpop_construction.proofs.theory.closures.ValidClosures.{valid_of_start, start_of_valid, token_of_start, start_of_token, valid_of_moved, moved_of_valid, token_of_moved, moved_of_token, tokens_along, moved_along, moved_with_along}
use Rattle.lalrpop_collections.proofs.theory.lists.BothFacts.{then_both, turned_both, both_ways}

abbrev eof_of : Grammar → Bits
eof_of g = with_bit no_bits (length g.terminals)

abbrev pub kernel_at_start : Grammar → NonterminalString → List (Dotted Bits)
kernel_at_start g start = map (item_at_start (eof_of g)) (productions_of g start)

-- ---- a closure of the start, and of moved items
module _ (g : Grammar) (start : NonterminalString) (items kernel : List (Dotted Bits)) (closure : IsClosureOf (rules_of g) kernel items) where
  abbrev ps : List Production
  ps = productions g

  abbrev Here : Production → ℕ → Type 0
  Here p dot = Contains (map dotted_of items) (p, dot)

  abbrev With : Production → ℕ → Token → Type 0
  With = HasItemToken g.terminals items

  module _ (A : Production → ℕ → Type 0) (B : Production → ℕ → Token → Type 0) (V : Production → ℕ → Type 0) (T : Production → ℕ → Token → Type 0)
      (kernel_is : (p : Production) (dot : ℕ) → InKernel kernel p dot ↔ A p dot) (tokens_are : (p : Production) (dot : ℕ) (t : Token) → HasItemToken g.terminals kernel p dot t ↔ B p dot t)
      (valid : (p : Production) (dot : ℕ) → InClosure ps A p dot ↔ V p dot) (valid_tokens : (p : Production) (dot : ℕ) (t : Token) → InTokenClosure ps V B p dot t ↔ T p dot t) where
    items_are : (p : Production) (dot : ℕ) → Here p dot ↔ V p dot
    items_are p dot = (
      λ c. (valid p dot).0 (InClosure-more ps (InKernel kernel) A (λ q d h. (kernel_is q d).0 h) ((closure.exact p dot).0 c)),
      λ v. (closure.exact p dot).1 (InClosure-more ps A (InKernel kernel) (λ q d h. (kernel_is q d).1 h) ((valid p dot).1 v)),
    )

    with_tokens : (p : Production) (dot : ℕ) (t : Token) → With p dot t ↔ T p dot t
    with_tokens p dot t = (
      λ c. (valid_tokens p dot t).0 (tokens_along ps start Here V (HasItemToken g.terminals kernel) B (λ q d h. (items_are q d).0 h) (λ q d u h. (tokens_are q d u).0 h) ((closure.tokens p dot t).0 c)),
      λ v. (closure.tokens p dot t).1 (tokens_along ps start V Here B (HasItemToken g.terminals kernel) (λ q d h. (items_are q d).1 h) (λ q d u h. (tokens_are q d u).1 h) ((valid_tokens p dot t).1 v)),
    )

module _ (g : Grammar) (start : NonterminalString) (well : IsWellFormed g) (own : AreOwn g) (states : List (State Bits)) (b : ArePartlyBuilt (rules_of g) (kernel_at_start g start) states) where
  abbrev Made : List (Dotted Bits) → List (Dotted Bits) → Type 0
  Made = IsClosureOf (rules_of g)

  abbrev first : List (Dotted Bits)
  first = kernel_at_start g start

  -- ---- state 0
  first_state : (s : State Bits) → slice_get states 0 ≡ Some s → IsStateFor (rules_of g) start [] s
  first_state s at =
      let closure = subst (λ (k : List (Dotted Bits)). IsClosureOf (rules_of g) k s.items.vec.items) (first_kernel Made first states b s at) (b.each 0 s at).built.closure in
      let items = start_items g well own start (eof_of g) in
      let tokens = start_tokens g well own start in
      let valid = λ (p : Production) (dot : ℕ). both_ways (valid_of_start (productions g) start {p = p} {dot = dot}) (λ v. start_of_valid (productions g) start v refl) in
      let valid_tokens = λ (p : Production) (dot : ℕ) (t : Token). both_ways (token_of_start (productions g) start {p = p} {dot = dot} {t = t}) (λ v. start_of_token (productions g) start v refl) in
      record {
        live = inl refl;
        items = items_are g start s.items.vec.items (kernel_at_start g start) closure (IsAtStart (productions g) start) (IsAtStartWith (productions g) start) (Valid (productions g) start []) (ValidToken (productions g) start []) items tokens valid valid_tokens;
        tokens = with_tokens g start s.items.vec.items (kernel_at_start g start) closure (IsAtStart (productions g) start) (IsAtStartWith (productions g) start) (Valid (productions g) start []) (ValidToken (productions g) start []) items tokens valid valid_tokens;
      }

  -- ---- a state to which a transition leads
  next_state : (n m : ℕ) (s t : State Bits) (x : Symbol) (target : StateIndex) (u : List Symbol) → slice_get states n ≡ Some s → slice_get states m ≡ Some t → HasTransition x target s → target.0 ≡ m → IsStateFor (rules_of g) start u s → IsStateFor (rules_of g) start (u ++ x ∷ []) t
  next_state n m s t x target u at at_m h e f =
      let l = (b.each n s at).built.leads x target h in
      let closure = subst (λ (k : List (Dotted Bits)). IsClosureOf (rules_of g) k t.items.vec.items) (sym (over_kernel Made first states b n m s t x target at at_m h e)) (b.each m t at_m).built.closure in
      let is = s.items.vec.items in
      let items = λ (p : Production) (dot : ℕ). then_both (moved_items x is l.kernel l.shifts p dot) (
        moved_along (HasDotted s) (Valid (productions g) start u) x (λ q d. (f.items q d).0) p dot,
        moved_along (Valid (productions g) start u) (HasDotted s) x (λ q d. (f.items q d).1) p dot,
      ) in
      let tokens = λ (p : Production) (dot : ℕ) (k : Token). then_both (moved_tokens x is l.kernel l.shifts g.terminals p dot k) (
        moved_with_along (HasItemToken g.terminals is) (ValidToken (productions g) start u) x (λ q d v. (f.tokens q d v).0) p dot k,
        moved_with_along (ValidToken (productions g) start u) (HasItemToken g.terminals is) x (λ q d v. (f.tokens q d v).1) p dot k,
      ) in
      let valid = λ (p : Production) (dot : ℕ). both_ways (valid_of_moved (productions g) start u x {p = p} {dot = dot}) (λ v. moved_of_valid (productions g) start u x v refl) in
      let valid_tokens = λ (p : Production) (dot : ℕ) (k : Token). both_ways (token_of_moved (productions g) start u x {p = p} {dot = dot} {t = k}) (λ v. moved_of_token (productions g) start u x v refl) in
      let i = l.behind.item in
      let was = (f.items i.production i.index).0 (contains_map dotted_of is i l.behind.among) in
      record {
        live = inr (i.production, suc i.index, shifts x (drop (suc i.index) i.production.symbols) was (drop_split i.index i.production.symbols x l.behind.behind));
        items = items_are g start t.items.vec.items l.kernel closure (IsMoved (Valid (productions g) start u) x) (IsMovedWith (ValidToken (productions g) start u) x) (Valid (productions g) start (u ++ x ∷ [])) (ValidToken (productions g) start (u ++ x ∷ [])) items tokens valid valid_tokens;
        tokens = with_tokens g start t.items.vec.items l.kernel closure (IsMoved (Valid (productions g) start u) x) (IsMovedWith (ValidToken (productions g) start u) x) (Valid (productions g) start (u ++ x ∷ [])) (ValidToken (productions g) start (u ++ x ∷ [])) items tokens valid valid_tokens;
      }

  -- ---- each state is that of a live prefix, and no two are the same
  module _ (differ : AllDiffer g.terminals) where
    moved_kernel : (kernel : List (Dotted Bits)) → IsMovedFrom Made first states b kernel → IsMovedKernel (rules_of g) kernel
    moved_kernel kernel f =
        let is = f.state.items.vec.items in
        let c = (b.each f.place f.state f.there).built.closure in record {
          of = Shifts-items itself (rules_of g) f.symbol is kernel f.shifts c.are_items;
          ascend = Shifts-ascend f.symbol is kernel f.shifts c.ascend;
          past = Shifts-past f.symbol is kernel f.shifts;
        }

    one : (n m : ℕ) (s t : State Bits) (at : slice_get states n ≡ Some s) (at_m : slice_get states m ≡ Some t) → 0 < n → 0 < m → HaveSameContents g.terminals s t → (b.each n s at).kernel ≡ (b.each m t at_m).kernel
    one n m s t at at_m l l_m h =
        let j = b.each n s at in
        let k = b.each m t at_m in
        let is = s.items.vec.items in
        let ks = t.items.vec.items in
        same_kernels (rules_of g) differ j.kernel k.kernel (moved_kernel j.kernel (moved_from Made first states b n s at l)) (moved_kernel k.kernel (moved_from Made first states b m t at_m l_m))
        (λ p d. then_both (kernel_items (rules_of g) j.kernel is (exactly_of (rules_of g) j.kernel is j.built.closure) p d) (then_both (h.items p (suc d)) (turned_both (kernel_items (rules_of g) k.kernel ks (exactly_of (rules_of g) k.kernel ks k.built.closure) p d))))
        (λ p d u. then_both (kernel_tokens (rules_of g) j.kernel is j.built.closure p d u) (then_both (h.tokens p (suc d) u) (turned_both (kernel_tokens (rules_of g) k.kernel ks k.built.closure p d u))))

    pub some_canonical_states : AreSomeCanonicalStates (rules_of g) start states
    some_canonical_states = record {
      first = first_state;
      each = each_is Made first states b (IsStateFor (rules_of g) start) first_state next_state;
      differ = apart Made first states b (rules_of g) (exactly_of (rules_of g)) (λ p d k. let z : suc d ≡ 0 = begun_zero (eof_of g) (productions_of g start) (p, suc d) k in omega arith)
          (HaveSameContents g.terminals) (λ s t h. h.items) one;
    }
