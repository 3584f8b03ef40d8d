-- The states that a construction without lookahead has made when it stops are those of live
-- prefixes, and no two are the same.
use Rattle.std.proofs.Common.{◌≡◌, ◌≢◌, ◌↔◌, ◌⊎◌, ℕ, suc, ◌<◌, ◌≤◌, inl, inr, List, [], ◌∷◌, ◌++◌, length, map, drop, refl, sym, subst, arith, Some}
use Rattle.std.specs.Prelude.{Contains, slice_get}
use Rattle.std.proofs.lemmas.Bool.{cases_lt}
use Rattle.lalrpop_base.specs.Words.{InClosure, IsAtStart, IsMoved, Dotted, nil_conflicts, Valid, shifts, Rules, rules_of, productions, productions_of, IsWellFormed}
use Rattle.lalrpop_construction.proofs.Types.{BuildError, Conflict, Grammar, Nil, NonterminalString, Production, State, StateIndex, Symbol}
use Rattle.lalrpop_states.specs.declared.lr1_core.state.BuildError.TheVariants.{Conflicts, Memory}
use Rattle.lalrpop_states.specs.states.Items.{dotted_of}
use Rattle.lalrpop_base.specs.Words.{AreOwn, InKernel}
use Rattle.lalrpop_construction.specs.Words.{AreLr0States}
use Rattle.lalrpop_construction.specs.Words.{ArePartlyBuiltBy, HasDotted, IsLr0StateFor, AreSomeLr0States, AreEnough, AreMadeFor}
use Rattle.lalrpop_construction.specs.Words.{StopsFor, Lr0StopsAfter, FailsAfterLr0, Settings}
use Rattle.lalrpop_base.specs.Words.{item_at_start, HasTransition}
use Rattle.lalrpop_construction.proofs.theory.canonical.Canonical.{start_items, moved_items, InClosure-more}
use Rattle.lalrpop_construction.proofs.theory.early_stop.PartlyBuilt.{apart, each_is, first_kernel, moved_from, over_kernel}
use Rattle.lalrpop_construction.proofs.theory.construction.ClosedStates.{IsExactClosure, kernel_items}
use Rattle.lalrpop_states.proofs.theory.closures.Closing.{drop_split}
use Rattle.lalrpop_construction.proofs.theory.conflicts.GrownConflicts.{All-listed, States-of}
use Rattle.lalrpop_collections.proofs.theory.lists.Members.{contains_map}
use Rattle.lalrpop_construction.proofs.theory.canonical.Lr0States.{nothing, never, stopped, Lists, Closes, exactly, one_kernel, construction, States-lr0}
use Rattle.lalrpop_construction.proofs.theory.construction.Shifting.{begun_zero}
use Rattle.lalrpop_construction.proofs.theory.closures.ValidClosures.{valid_of_start, start_of_valid, valid_of_moved, moved_of_valid, moved_along}
use Rattle.lalrpop_collections.proofs.theory.lists.BothFacts.{then_both, turned_both, both_ways}

-- ---- a closure of the start, or of moved items
module _ (g : Rules) (start : NonterminalString) (items kernel : List (Dotted Nil)) (closure : IsExactClosure g kernel items) where
  items_are : (A V : Production → ℕ → Type 0) → ((p : Production) (dot : ℕ) → InKernel kernel p dot ↔ A p dot) → ((p : Production) (dot : ℕ) → InClosure g.productions A p dot ↔ V p dot) → (p : Production) (dot : ℕ) → Contains (map dotted_of items) (p, dot) ↔ V p dot
  items_are A V kernel_is valid p dot = (
    λ c. (valid p dot).0 (InClosure-more g.productions (InKernel kernel) A (λ q d h. (kernel_is q d).0 h) ((closure.exact p dot).0 c)),
    λ v. (closure.exact p dot).1 (InClosure-more g.productions A (InKernel kernel) (λ q d h. (kernel_is q d).1 h) ((valid p dot).1 v)),
  )

abbrev kernel_at_start : Grammar → NonterminalString → Nil → List (Dotted Nil)
kernel_at_start g start lookahead = map (item_at_start lookahead) (productions_of g start)

module _ (g : Grammar) (start : NonterminalString) (lookahead : Nil) (well : IsWellFormed g) (own : AreOwn g) (states : List (State Nil)) (b : ArePartlyBuiltBy (Closes (rules_of g)) (kernel_at_start g start lookahead) states) where
  abbrev Made : List (Dotted Nil) → List (Dotted Nil) → Type 0
  Made = Closes (rules_of g)

  abbrev first : List (Dotted Nil)
  first = kernel_at_start g start lookahead

  closure_of : (n : ℕ) (s : State Nil) (at : slice_get states n ≡ Some s) → IsExactClosure (rules_of g) (b.each n s at).kernel s.items.vec.items
  closure_of n s at = exactly (rules_of g) (b.each n s at).kernel s.items.vec.items (b.each n s at).built.closure

  -- ---- state 0
  first_state : (s : State Nil) → slice_get states 0 ≡ Some s → IsLr0StateFor (rules_of g) start [] s
  first_state s at =
      let closure = subst (λ (k : List (Dotted Nil)). IsExactClosure (rules_of g) k s.items.vec.items) (first_kernel Made first states b s at) (closure_of 0 s at) in
      let valid = λ (p : Production) (dot : ℕ). both_ways (valid_of_start (productions g) start {p = p} {dot = dot}) (λ v. start_of_valid (productions g) start v refl) in
      record {
        live = inl refl;
        items = items_are (rules_of g) start s.items.vec.items (kernel_at_start g start lookahead) closure (IsAtStart (productions g) start) (Valid (productions g) start []) (start_items g well own start lookahead) valid;
      }

  -- ---- a state to which a transition leads
  next_state : (n m : ℕ) (s t : State Nil) (x : Symbol) (target : StateIndex) (u : List Symbol) → slice_get states n ≡ Some s → slice_get states m ≡ Some t → HasTransition x target s → target.0 ≡ m → IsLr0StateFor (rules_of g) start u s → IsLr0StateFor (rules_of g) start (u ++ x ∷ []) t
  next_state n m s t x target u at at_m h e f =
      let l = (b.each n s at).built.leads x target h in
      let closure = subst (λ (k : List (Dotted Nil)). IsExactClosure (rules_of g) k t.items.vec.items) (sym (over_kernel Made first states b n m s t x target at at_m h e)) (closure_of m t at_m) in
      let is = s.items.vec.items in
      let items = λ (p : Production) (dot : ℕ). then_both (moved_items x is l.kernel l.shifts p dot) (
        moved_along (HasDotted s) (Valid (productions g) start u) x (λ q d. (f.items q d).0) p dot,
        moved_along (Valid (productions g) start u) (HasDotted s) x (λ q d. (f.items q d).1) p dot,
      ) in
      let valid = λ (p : Production) (dot : ℕ). both_ways (valid_of_moved (productions g) start u x {p = p} {dot = dot}) (λ v. moved_of_valid (productions g) start u x v refl) in
      let i = l.behind.item in
      let was = (f.items i.production i.index).0 (contains_map dotted_of is i l.behind.among) in
      record {
        live = inr (i.production, suc i.index, shifts x (drop (suc i.index) i.production.symbols) was (drop_split i.index i.production.symbols x l.behind.behind));
        items = items_are (rules_of g) start t.items.vec.items l.kernel closure (IsMoved (Valid (productions g) start u) x) (Valid (productions g) start (u ++ x ∷ [])) items valid;
      }

  -- ---- each state is that of a live prefix, and no two are the same
  one : (n m : ℕ) (s t : State Nil) (at : slice_get states n ≡ Some s) (at_m : slice_get states m ≡ Some t) → 0 < n → 0 < m → ((p : Production) (dot : ℕ) → HasDotted s p dot ↔ HasDotted t p dot) → (b.each n s at).kernel ≡ (b.each m t at_m).kernel
  one n m s t at at_m l k h =
      let f = moved_from Made first states b n s at l in
      let e = moved_from Made first states b m t at_m k in
      one_kernel f.symbol e.symbol (b.each n s at).kernel (b.each m t at_m).kernel f.state.items.vec.items e.state.items.vec.items f.shifts e.shifts (closure_of f.place f.state f.there).ascend (closure_of e.place e.state e.there).ascend
      (λ p d. then_both (kernel_items (rules_of g) (b.each n s at).kernel s.items.vec.items (closure_of n s at) p d) (then_both (h p (suc d)) (turned_both (kernel_items (rules_of g) (b.each m t at_m).kernel t.items.vec.items (closure_of m t at_m) p d))))

  some_lr0_states : AreSomeLr0States (rules_of g) start states
  some_lr0_states = record {
    first = first_state;
    each = each_is Made first states b (IsLr0StateFor (rules_of g) start) first_state next_state;
    differ = apart Made first states b (rules_of g) (exactly (rules_of g)) (λ p d k. let z : suc d ≡ 0 = begun_zero lookahead (productions_of g start) (p, suc d) k in omega arith)
        (λ s t. (p : Production) (dot : ℕ) → HasDotted s p dot ↔ HasDotted t p dot) (λ s t h. h) one;
  }

-- ---- the errors
module _ (g : Grammar) (start : NonterminalString) (lookahead : Nil) (well : IsWellFormed g) (own : AreOwn g) (stop_after : ℕ) where
  abbrev pub settings : Settings Nil
  settings = record { construction = construction g start lookahead well own; stop_after = stop_after }

  module _ (states : List (State Nil)) (conflicts : List (Conflict Nil)) (m : AreMadeFor nothing never stopped Lists settings states conflicts) (some : conflicts ≢ []) where
    all : ¬ AreEnough stop_after (length conflicts) → AreLr0States (rules_of g) start states
    all few = States-lr0 g start lookahead well own states (States-of nothing never stopped Lists (construction g start lookahead well own) states (m.whole few))

    enough_or_all : (0 < stop_after) ⊎ (stop_after ≤ 0) → (length conflicts < stop_after) ⊎ (stop_after ≤ length conflicts) → AreEnough stop_after (length conflicts) ⊎ AreLr0States (rules_of g) start states
    enough_or_all (inl positive) (inr enough) = inl (positive, enough)
    enough_or_all (inl positive) (inl few) = inr (all (λ h. let a = h.1 in omega arith))
    enough_or_all (inr none) d = inr (all (λ h. let a = h.0 in omega arith))

    stops : Lr0StopsAfter (rules_of g) start stop_after states conflicts
    stops = record {
      states_are = some_lr0_states g start lookahead well own states m.built;
      made = (kernel_at_start g start lookahead, m.built);
      conflicts_are = All-listed (λ terminals s. nil_conflicts s) g.terminals m.listed;
      some = some;
      goes_on = λ positive. let f = m.goes_on positive in subst (λ (cs : List (Conflict Nil)). length cs < stop_after) (All-listed (λ terminals s. nil_conflicts s) g.terminals f.all) f.fewer;
      either = enough_or_all (cases_lt 0 stop_after) (cases_lt (length conflicts) stop_after);
    }

  pub stopped_after_lr0 : (error : BuildError Nil) → StopsFor nothing never stopped Lists settings error → FailsAfterLr0 (rules_of g) start stop_after error
  stopped_after_lr0 (Conflicts error) f = stops error.states.items error.conflicts.items f.0 f.1
  stopped_after_lr0 Memory f = tt
