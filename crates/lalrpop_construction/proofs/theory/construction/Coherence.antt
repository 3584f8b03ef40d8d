-- The states that are built from kernels are coherent.
use Rattle.std.proofs.Common.{◌≡◌, ℕ, ◌+◌, ◌-◌, ◌<◌, ◌⊎◌, inl, inr, List, [], ◌∷◌, length, get_or, map, refl, sym, ◌∙◌, ap, subst, arith, ⊎_elim, Bool, true, false, cond, Some, eqb-true, option_map}
use Rattle.std.specs.Prelude.{Contains, slice_get, ◌==◌}
use Rattle.std.proofs.lemmas.Option.{slice_get_within, slice_get-get_or, slice_get-map}
use Rattle.lalrpop_base.specs.Words.{Bits, HasItem, IsShiftedFrom, IsCoherentStep, AreFinished, AreCoherent, Dotted, Rules, Kernels, InKernel, AreItemsBy, ItemsLeadTo}
use Rattle.lalrpop_base.specs.Words.{IsBuiltBy, IsBuiltOfBy, Extends, LeadsToAdded, AreBuiltBy, IsBehindOne, Shifts, Groups, AreMoves, AreEdges, reductions_of}
use Rattle.lalrpop_base.specs.Words.{seen_reduction, shifted, AddsKernels}
use Rattle.lalrpop_construction.proofs.Types.{Production, State, StateIndex, Symbol}
use Rattle.lalrpop_grammar.specs.declared.repr.Symbol.TheVariants.{Nonterminal, Terminal}
use Rattle.lalrpop_states.specs.states.Items.{dotted_of}
use Rattle.lalrpop_collections.proofs.theory.lists.Members.{Contains-none, contains_head, contains_tail, contains-cons, place}
use Rattle.lalrpop_states.specs.construction.Transitions.Shifts.{none, moves, stays}
use Rattle.lalrpop_collections.proofs.theory.lists.Places.{contains_at, same_some, one_place, in_added}
use Rattle.lalrpop_construction.proofs.theory.construction.Shifting.{Shifts-from, Shifts-items, of_dotted}

abbrev pair : Production → ℕ → Production × ℕ
pair p n = (p, n)

module _ {L : Type 0} where
  -- ---- a state is made
  pub Built-made : (C : List (Dotted L) → List (Dotted L) → Type 0) (kernel items : List (Dotted L)) (groups : Groups L) (list : List (List (Dotted L))) (number : ℕ) (state : State L) → state.index.0 ≡ number → state.items.vec.items ≡ items →
      map seen_reduction state.reductions.items ≡ reductions_of items → C kernel items → AreMoves items groups → AreEdges groups list (record { shifts = state.shifts; gotos = state.gotos }) → IsBuiltBy C list kernel number state
  Built-made C kernel items groups list number state n i r c m e = record {
    index = n;
    closure = subst (C kernel) (sym i) c;
    leads = λ x target h.
        let l = e.leads x target h in
        record { kernel = l.kernel; behind = subst (IsBehindOne x) (sym i) (m.some x l.kernel l.group); shifts = subst (λ (xs : List (Dotted L)). Shifts x xs l.kernel) (sym i) (m.each x l.kernel l.group); numbered = l.numbered };
    all = λ x j d b.
        let group = m.has x j (subst (λ (xs : List (Dotted L)). Contains xs j) i d) b in
        e.all x group.0 group.1;
    ascend = e.ascend;
    finished = r ∙ ap reductions_of (sym i);
  }

  pub Reached-extends : (meaning : L → Bits) (g : Rules) (items : List (Dotted L)) (groups : Groups L) (old new : Kernels (List (Dotted L))) → AreItemsBy meaning g items → AreMoves items groups → AddsKernels groups old new → Extends meaning g old new
  Reached-extends meaning g items groups old new a m r = record {
    added = r.added;
    stay = r.stay;
    of = λ k c. let group = r.of k c in Shifts-items meaning g group.0 items k (m.each group.0 k group.1) a;
    handed = r.handed;
    differ = r.differ;
  }

  -- items and a symbol have exactly one kernel
  pub one_kernel : (x : Symbol) (items a b : List (Dotted L)) → Shifts x items a → Shifts x items b → a ≡ b
  one_kernel x items a b none none = refl
  one_kernel x items a b (moves {i} {items = is} {kernel = ks} h s) (moves {kernel = ls} k t) = ap (λ (js : List (Dotted L)). shifted i ∷ js) (one_kernel x is ks ls s t)
  one_kernel x items a b (moves h s) (stays k t) = absurd (k h)
  one_kernel x items a b (stays h s) (moves k t) = absurd (h k)
  one_kernel x items a b (stays {items = is} {kernel = ks} h s) (stays {kernel = ls} k t) = one_kernel x is ks ls s t

  pub Reached-led : (items : List (Dotted L)) (groups : Groups L) (old new : Kernels (List (Dotted L))) (state : State L) → AreMoves items groups → AreEdges groups new.list (record { shifts = state.shifts; gotos = state.gotos }) → AddsKernels groups old new → LeadsToAdded old new state
  Reached-led items groups old new state m e r differ n from to =
      let k = in_added old.list r.added new.list n r.stay from to in
      let group = r.of k.0 k.2 in
      let edge = e.all group.0 k.0 group.1 in
      let l = e.leads group.0 edge.0 edge.1 in
      let same : l.kernel ≡ k.0 = one_kernel group.0 items l.kernel k.0 (m.each group.0 l.kernel l.group) (m.each group.0 k.0 group.1) in
      (group.0, edge.0, edge.1, one_place new.list (r.differ differ) edge.0.0 n k.0 (l.numbered ∙ ap Some same) k.1)

  -- ---- a state is coherent with the others
  has_item : (items : List (Dotted L)) (i : Dotted L) (p : Production) (n : ℕ) → Contains items i → i.production ≡ p → i.index ≡ n → HasItem items p n
  has_item items i p n c e f = let at = place items i c in (at.0, i, at.2, record { same = e; dot = f })

  module _ (C : List (Dotted L) → List (Dotted L) → Type 0) (dots : (kernel items : List (Dotted L)) → C kernel items → (i : Dotted L) → Contains items i → (i.index ≡ 0) ⊎ InKernel kernel i.production i.index)
      (first : List (Dotted L)) (states : List (State L)) (b : AreBuiltBy C first states) where
    came : (items : List (Dotted L)) (x : Symbol) (kernel : List (Dotted L)) (j : Dotted L) → Shifts x items kernel → Contains (map dotted_of kernel) (j.production, j.index) → IsShiftedFrom items x j
    came items x kernel j s c =
        let k = of_dotted kernel (j.production, j.index) c in
        let f = Shifts-from x items kernel s k.0 k.1 in
        let same : pair f.item.production (f.item.index + 1) ≡ pair j.production j.index = ap (λ (i : Dotted L). pair i.production i.index) f.is ∙ k.2 in
        let p : f.item.production ≡ j.production = ap (λ (d : Production × ℕ). d.0) same in
        let n : f.item.index + 1 ≡ j.index = ap (λ (d : Production × ℕ). d.1) same in
        let before : f.item.index ≡ j.index - 1 = omega arith in
        record {
          over = subst (λ (q : Production). slice_get q.symbols (j.index - 1) ≡ Some x) p (subst (λ (m : ℕ). slice_get f.item.production.symbols m ≡ Some x) before f.behind);
          origin = has_item items f.item j.production (j.index - 1) f.among p before;
        }

    step : (state : State L) (items : List (Dotted L)) (x : Symbol) (target : StateIndex) → ItemsLeadTo items b.kernels x target → IsCoherentStep states items x target.0
    step state items x target l =
        let in_list = slice_get_within b.kernels target.0 l.kernel l.numbered in
        let counted = b.counted in
        let within : target.0 < length states = omega arith in
        let at = slice_get-get_or states target.0 state within in
        let to = b.each target.0 (get_or states target.0 state) at in
        let same : to.kernel ≡ l.kernel = same_some to.kernel l.kernel (sym to.numbered ∙ l.numbered) in
        record {
          to = get_or states target.0 state;
          there = at;
          came = λ k j at_k over.
              ⊎_elim
              (λ (z : j.index ≡ 0). absurd (omega arith))
              (λ c. came items x l.kernel j l.shifts (subst (λ (ks : List (Dotted L)). Contains (map dotted_of ks) (j.production, j.index)) same c))
              (dots to.kernel (get_or states target.0 state).items.vec.items to.built.closure j (contains_at (get_or states target.0 state).items.vec.items j k at_k));
        }

    abbrev Finished : List (Dotted L) → L × Production → Type 0
    Finished items r = (i : Dotted L) × Contains items i × (i.index ≡ length i.production.symbols) × (i.production ≡ r.1)

    finished_later : (i : Dotted L) (items : List (Dotted L)) (r : L × Production) → Finished items r → Finished (i ∷ items) r
    finished_later i items r f = (f.0, contains_tail i items f.0 f.1, f.2, f.3)

    finished_at : (i : Dotted L) (items : List (Dotted L)) (r : L × Production) (t : Bool) → (i.index == length i.production.symbols) ≡ t → Contains (cond t ((i.lookahead, i.production) ∷ reductions_of items) (reductions_of items)) r → (Contains (reductions_of items) r → Finished items r) → Finished (i ∷ items) r
    finished_at i items r true e d later = elim (contains-cons (i.lookahead, i.production) (reductions_of items) r d) [
      | inl same ↦ (i, contains_head i items, eqb-true i.index (length i.production.symbols) e, ap (λ (q : L × Production). q.1) same)
      | inr more ↦ finished_later i items r (later more)
    ]
    finished_at i items r false e d later = finished_later i items r (later d)

    finished_in : (items : List (Dotted L)) (r : L × Production) → Contains (reductions_of items) r → Finished items r
    finished_in [] r c = absurd (Contains-none r c)
    finished_in (i ∷ items) r c = finished_at i items r (i.index == length i.production.symbols) refl c (finished_in items r)

    finished : (n : ℕ) (state : State L) → IsBuiltOfBy C b.kernels n state → AreFinished state.items.vec.items state.reductions.items
    finished n state built k r at =
        let seen_at = slice_get-map seen_reduction state.reductions.items k ∙ ap (option_map seen_reduction) at in
        let f = finished_in state.items.vec.items (seen_reduction r) (subst (λ (rs : List (L × Production)). Contains rs (seen_reduction r)) built.built.finished (contains_at (map seen_reduction state.reductions.items) (seen_reduction r) k seen_at)) in
        has_item state.items.vec.items f.0 r.1.now (length r.1.now.symbols) f.1 f.3 (f.2 ∙ ap (λ (p : Production). length p.symbols) f.3)

    pub Built-coherent : ((d : Production × ℕ) → Contains (map dotted_of first) d → d.1 ≡ 0) → AreCoherent states
    Built-coherent zeros place state at =
        let built = b.each place state at in record {
          numbered = built.built.index;
          start = λ zero_place k i at_k. ⊎_elim
              (λ z. z)
              (λ c.
              let kernel : built.kernel ≡ first = same_some built.kernel first (sym built.numbered ∙ ap (slice_get b.kernels) zero_place ∙ b.start) in
              zeros (i.production, i.index) (subst (λ (ks : List (Dotted L)). Contains (map dotted_of ks) (i.production, i.index)) kernel c))
              (dots built.kernel state.items.vec.items built.built.closure i (contains_at state.items.vec.items i k at_k));
          shifts = λ k e at_k. step state state.items.vec.items (Terminal e.0) e.1 (built.built.leads (Terminal e.0) e.1 (contains_at state.shifts.entries e k at_k));
          gotos = λ k e at_k. step state state.items.vec.items (Nonterminal e.0) e.1 (built.built.leads (Nonterminal e.0) e.1 (contains_at state.gotos.entries e k at_k));
          finished = finished place state built;
        }

    pub Built-some : 0 < length states
    Built-some = let l = slice_get_within b.kernels 0 first b.start in let c = b.counted in omega arith
