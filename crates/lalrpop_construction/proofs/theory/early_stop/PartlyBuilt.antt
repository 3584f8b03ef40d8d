-- The states that a construction has made from kernels when it stops. Each is reached from the
-- first, and no two are the same.
use Rattle.std.proofs.Common.{◌≡◌, ◌↔◌, ℕ, zero, suc, ◌<◌, List, [], ◌∷◌, ◌++◌, map, sym, ◌∙◌, ap, subst, arith, Some}
use Rattle.std.specs.Prelude.{Contains, slice_get}
use Rattle.std.proofs.lemmas.Option.{slice_get_within}
use Rattle.lalrpop_base.specs.Words.{Dotted, InKernel, Rules, HasTransition, Shifts, shifted, IsBehindOne}
use Rattle.lalrpop_construction.specs.Words.{ArePartlyBuiltBy, HasDotted}
use Rattle.lalrpop_states.specs.states.Items.{dotted_of}
use Rattle.lalrpop_collections.proofs.theory.lists.Members.{contains_map}
use Rattle.lalrpop_collections.proofs.theory.lists.Places.{same_some}
use Rattle.lalrpop_construction.proofs.Types.{Production, State, StateIndex, Symbol}
use Rattle.lalrpop_construction.proofs.theory.canonical.Canonical.{Shifts-onto}
use Rattle.lalrpop_construction.proofs.theory.construction.ClosedStates.{IsExactClosure, kernel_items}
use Rattle.lalrpop_construction.proofs.theory.construction.SameKernels.{Shifts-past}

module _ {L : Type 0} (Closes : List (Dotted L) → List (Dotted L) → Type 0) (first : List (Dotted L)) (states : List (State L)) (b : ArePartlyBuiltBy Closes first states) where
  -- the kernel of the first state is the first kernel
  pub first_kernel : (s : State L) (at : slice_get states 0 ≡ Some s) → (b.each 0 s at).kernel ≡ first
  first_kernel s at = let built = b.each 0 s at in same_some built.kernel first (sym built.numbered ∙ b.start)

  -- the kernel of a state to which a transition leads has the moved items
  pub over_kernel : (n m : ℕ) (s t : State L) (x : Symbol) (target : StateIndex) (at : slice_get states n ≡ Some s) (at_m : slice_get states m ≡ Some t) (h : HasTransition x target s) → target.0 ≡ m → ((b.each n s at).built.leads x target h).kernel ≡ (b.each m t at_m).kernel
  over_kernel n m s t x target at at_m h e =
      let l = (b.each n s at).built.leads x target h in
      let k = b.each m t at_m in
      same_some l.kernel k.kernel (sym l.numbered ∙ ap (slice_get b.kernels) e ∙ k.numbered)

  -- each state has a property of the first state that transitions keep
  module _ (Is : List Symbol → State L → Type 0) (begins : (s : State L) → slice_get states 0 ≡ Some s → Is [] s)
      (goes_on : (n m : ℕ) (s t : State L) (x : Symbol) (target : StateIndex) (u : List Symbol) → slice_get states n ≡ Some s → slice_get states m ≡ Some t → HasTransition x target s → target.0 ≡ m → Is u s → Is (u ++ x ∷ []) t) where
    each_below : (bound n : ℕ) → n < bound → (s : State L) → slice_get states n ≡ Some s → (u : List Symbol) × Is u s
    each_below zero n l s at = absurd (omega arith)
    each_below (suc bound) zero l s at = ([], begins s at)
    each_below (suc bound) (suc n) l s at =
        let led = b.led (suc n) (omega arith) (slice_get_within states (suc n) s at) in
        let earlier = led.earlier in
        let before = each_below bound led.place (omega arith) led.state led.there in
        (before.0 ++ led.symbol ∷ [], goes_on led.place (suc n) led.state s led.symbol led.target before.0 led.there at led.transition led.leads before.1)

    pub each_is : (n : ℕ) (s : State L) → slice_get states n ≡ Some s → (u : List Symbol) × Is u s
    each_is n s at = each_below (suc n) n (omega arith) s at

  -- ---- kernels after the first
  -- the kernel has items that were moved from the items of a state
  pub record IsMovedFrom (kernel : List (Dotted L)) : Type 0 where
    pub place : ℕ
    pub state : State L
    pub there : slice_get states place ≡ Some state
    pub symbol : Symbol
    pub behind : IsBehindOne symbol state.items.vec.items
    pub shifts : Shifts symbol state.items.vec.items kernel

  pub moved_from : (m : ℕ) (t : State L) (at : slice_get states m ≡ Some t) → 0 < m → IsMovedFrom (b.each m t at).kernel
  moved_from m t at more =
      let led = b.led m more (slice_get_within states m t at) in
      let l = (b.each led.place led.state led.there).built.leads led.symbol led.target led.transition in
      subst IsMovedFrom (over_kernel led.place m led.state t led.symbol led.target led.there at led.transition led.leads) (record {
        place = led.place;
        state = led.state;
        there = led.there;
        symbol = led.symbol;
        behind = l.behind;
        shifts = l.shifts;
      })

  one_past : (kernel : List (Dotted L)) → IsMovedFrom kernel → (p : Production) × (d : ℕ) × InKernel kernel p (suc d)
  one_past kernel f =
      let is = f.state.items.vec.items in
      let i = shifted f.behind.item in
      let c = Shifts-onto f.symbol is kernel f.shifts f.behind.item f.behind.among f.behind.behind in
      let d = Shifts-past f.symbol is kernel f.shifts i c in
      let e : dotted_of i ≡ (i.production, suc d.0) = ap (λ (k : ℕ). (i.production, k)) d.1 in
      (i.production, d.0, subst (Contains (map dotted_of kernel)) e (contains_map dotted_of kernel i c))

  -- ---- no two states are the same, if the kernels of states that are the same are the same
  module _ (g : Rules) (closes : (kernel items : List (Dotted L)) → Closes kernel items → IsExactClosure g kernel items) (starts : (p : Production) (d : ℕ) → InKernel first p (suc d) → ⊥)
      (Same : State L → State L → Type 0) (items : (s t : State L) → Same s t → (p : Production) (dot : ℕ) → HasDotted s p dot ↔ HasDotted t p dot)
      (one : (n m : ℕ) (s t : State L) (at : slice_get states n ≡ Some s) (at_m : slice_get states m ≡ Some t) → 0 < n → 0 < m → Same s t → (b.each n s at).kernel ≡ (b.each m t at_m).kernel) where
    pub apart : (n m : ℕ) (s t : State L) → n < m → slice_get states n ≡ Some s → slice_get states m ≡ Some t → ¬ Same s t
    apart zero m s t l at at_m h =
        let j = b.each 0 s at in
        let k = b.each m t at_m in
        let q = one_past k.kernel (moved_from m t at_m l) in
        let in_t = (kernel_items g k.kernel t.items.vec.items (closes k.kernel t.items.vec.items k.built.closure) q.0 q.1).0 q.2 in
        let in_s = (kernel_items g j.kernel s.items.vec.items (closes j.kernel s.items.vec.items j.built.closure) q.0 q.1).1 ((items s t h q.0 (suc q.1)).1 in_t) in
        starts q.0 q.1 (subst (λ (x : List (Dotted L)). InKernel x q.0 (suc q.1)) (first_kernel s at) in_s)
    apart (suc n) m s t l at at_m h =
        let j = b.each (suc n) s at in
        let k = b.each m t at_m in
        b.differ (suc n) m k.kernel l (j.numbered ∙ ap Some (one (suc n) m s t at at_m (omega arith) (omega arith) h)) k.numbered
