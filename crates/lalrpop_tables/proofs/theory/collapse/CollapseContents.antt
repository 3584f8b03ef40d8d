-- Canonical states and the states into which they are merged are a collapse, as the definitions
-- speak of states.
use Rattle.std.proofs.Common.{◌≡◌, ◌↔◌, ℕ, ◌<◌, inl, inr, Bool, true, List, length, map, refl, sym, ◌∙◌, ap, subst, Option, Some, None, option_map, get_or}
use Rattle.std.specs.Prelude.{Contains, slice_get}
use Rattle.std.specs.Borrow.{Bor}
use Rattle.std.specs.declared.cmp.Ordering.TheVariants.{Less}
use Rattle.std.proofs.lemmas.Map.Keys.{Less-from_sorted}
use Rattle.std.proofs.lemmas.Option.{slice_get_within, slice_get-map, get_or_from_slice_get}
use Rattle.lalrpop_base.specs.Words.{Bits, has, IsReached, at_zero, items_of, HoldsInGroup, LeadsInGroup, IsCollapse, number_of, contents, contents_of}
use Rattle.lalrpop_base.specs.Words.{contents_at, holds_token, reduction_of, Contents, leads, HasNoRepeat, ReducesFinished}
use Rattle.lalrpop_grammar.specs.closures.Closures.{over_edge}
use Rattle.lalrpop_grammar.specs.states.States.{Reduction}
use Rattle.lalrpop_tables.proofs.Types.{Grammar, NonterminalString, Production, State, StateIndex, Symbol, Token}
use Rattle.lalrpop_grammar.specs.declared.repr.Symbol.TheVariants.{Nonterminal, Terminal}
use Rattle.lalrpop_states.proofs.theory.states.ContentsViews.{lead_as_items_say}
use Rattle.lalrpop_collections.proofs.theory.lists.Lists.{some_of_map, contains_of_map, contains_map}
use Rattle.lalrpop_base.specs.Words.{production_order, retargeted}
use Rattle.lalrpop_construction.specs.Words.{AreOrderedCanonical}
use Rattle.lalrpop_tables.specs.Words.{dots_in, ReducesBy, IsCollapsed}
use Rattle.lalrpop_states.proofs.theory.grammars.AscendingItems.{less_apart}
use Rattle.lalrpop_construction.proofs.theory.construction.Reductions.{nothing_reduced}
use Rattle.lalrpop_tables.proofs.theory.collapse.CollapseDots.{same_dots, group, merged_of, first_group}
use Rattle.lalrpop_states.proofs.theory.grammars.KnownTerminals.{held_bit, bit_held}
use Rattle.lalrpop_collections.proofs.theory.lists.Members.{Contains-none, place}
use Rattle.lalrpop_collections.proofs.theory.lists.Places.{same_some, filled, places_apart}
use Rattle.lalrpop_construction.proofs.theory.construction.StateEdges.{no_leads}

abbrev pub CodeReduction : Type 0
CodeReduction = Bits × Bor Production

abbrev production_in : CodeReduction → Production
production_in r = r.1.now

module _ (g : Grammar) (start : NonterminalString) (before after : List (State Bits)) (ordered : AreOrderedCanonical g start before) (c : IsCollapsed before after) where
  abbrev pub holds : Bits → Token → Bool
  holds = holds_token g.terminals

  abbrev pub old : ℕ → Contents
  old = contents g.terminals before

  abbrev pub now : ℕ → Contents
  now = contents g.terminals after

  abbrev pub number : ℕ → ℕ
  number = group before after c

  -- ---- states that are reached
  reached_within : {n : ℕ} → IsReached old n → n < length before
  reached_within at_zero = ordered.some
  reached_within (over_edge {n} m x r e) = ((lead_as_items_say holds before ordered.coherent).edges n m x e).within

  record IsState (n : ℕ) : Type 0 where
    pub state : State Bits
    pub at : slice_get before n ≡ Some state
    pub merged : State Bits
    pub there : slice_get after (number n) ≡ Some merged
    pub same : dots_in state ≡ dots_in merged

  state_of : (n : ℕ) → IsReached old n → IsState n
  state_of n r =
      let s = filled before n (reached_within r) in
      let m = merged_of before after c n s.0 s.1 in
      record { state = s.0; at = s.1; merged = m.0; there = m.1; same = m.2 }

  reached_at : (n : ℕ) (s : State Bits) → slice_get before n ≡ Some s → IsReached old n
  reached_at n s at = ordered.canonical.reached n (slice_get_within before n s at)

  old_at : (n : ℕ) (s : State Bits) → slice_get before n ≡ Some s → old n ≡ contents_of holds s
  old_at n s at = ap (contents_at holds) at

  now_at : (k : ℕ) (s : State Bits) → slice_get after k ≡ Some s → now k ≡ contents_of holds s
  now_at k s at = ap (contents_at holds) at

  -- ---- the same dotted productions have one number
  listed_in : (n : ℕ) (s : State Bits) → slice_get before n ≡ Some s → (p : Production) (dot : ℕ) → items_of old n p dot ↔ Contains (dots_in s) (p, dot)
  listed_in n s at p dot = (
    λ h. subst (λ (x : Contents). Contains x.items (p, dot)) (old_at n s at) h,
    λ h. subst (λ (x : Contents). Contains x.items (p, dot)) (sym (old_at n s at)) h,
  )

  one_number : (n m : ℕ) → IsReached old n → IsReached old m → ((p : Production) (dot : ℕ) → items_of old n p dot ↔ items_of old m p dot) → number n ≡ number m
  one_number n m r q same =
      let a = state_of n r in
      let b = state_of m q in
      c.one n m a.state b.state a.at b.at
      (same_dots a.state.items.vec.items b.state.items.vec.items (ordered.ascend n a.state a.at) (ordered.ascend m b.state b.at)
      (λ d h. (listed_in m b.state b.at d.0 d.1).0 ((same d.0 d.1).0 ((listed_in n a.state a.at d.0 d.1).1 h)))
      (λ d h. (listed_in n a.state a.at d.0 d.1).0 ((same d.0 d.1).1 ((listed_in m b.state b.at d.0 d.1).1 h))))

  items_same : (n : ℕ) → IsReached old n → (p : Production) (dot : ℕ) → items_of now (number n) p dot ↔ items_of old n p dot
  items_same n r p dot =
      let s = state_of n r in (
        λ h. (listed_in n s.state s.at p dot).1 (subst (λ (ds : List (Production × ℕ)). Contains ds (p, dot)) (sym s.same) (subst (λ (x : Contents). Contains x.items (p, dot)) (now_at (number n) s.merged s.there) h)),
        λ h. subst (λ (x : Contents). Contains x.items (p, dot)) (sym (now_at (number n) s.merged s.there)) (subst (λ (ds : List (Production × ℕ)). Contains ds (p, dot)) s.same ((listed_in n s.state s.at p dot).0 h)),
      )

  -- ---- edges
  edge_over : (n m : ℕ) (x : Symbol) (s merged : State Bits) → slice_get before n ≡ Some s → slice_get after (number n) ≡ Some merged → leads (contents_of holds s) x ≡ Some m → leads (contents_of holds merged) x ≡ Some (number m)
  edge_over n m (Terminal t) s merged at there e =
      let (old_target, found, same) = some_of_map number_of _ m e in
      let to = ((c.each (number n) merged there).shifts t (retargeted number old_target)).1 (s, (n, at, refl), (old_target, found, refl)) in
      ap (option_map number_of) to ∙ ap (λ (k : ℕ). Some (number k)) same
  edge_over n m (Nonterminal a) s merged at there e =
      let (old_target, found, same) = some_of_map number_of _ m e in
      let to = ((c.each (number n) merged there).gotos a (retargeted number old_target)).1 (s, (n, at, refl), (old_target, found, refl)) in
      ap (option_map number_of) to ∙ ap (λ (k : ℕ). Some (number k)) same

  edges_go : (n m : ℕ) (x : Symbol) → IsReached old n → leads (old n) x ≡ Some m → leads (now (number n)) x ≡ Some (number m)
  edges_go n m x r e =
      let s = state_of n r in
      ap (λ (k : Contents). leads k x) (now_at (number n) s.merged s.there) ∙ edge_over n m x s.state s.merged s.at s.there (ap (λ (k : Contents). leads k x) (sym (old_at n s.state s.at)) ∙ e)

  edge_from : (k m : ℕ) (x : Symbol) (merged : State Bits) → slice_get after k ≡ Some merged → leads (contents_of holds merged) x ≡ Some m → LeadsInGroup number old k x m
  edge_from k m (Terminal t) merged there e =
      let (target, found, same) = some_of_map number_of _ m e in
      let (s, member, lead) = ((c.each k merged there).shifts t target).0 found in
      record {
        state = member.0;
        reached = reached_at member.0 s member.1;
        same = member.2;
        to = lead.0.0;
        edge = ap (λ (y : Contents). leads y (Terminal t)) (old_at member.0 s member.1) ∙ ap (option_map number_of) lead.1;
        same_target = ap (λ (y : StateIndex). y.0) (sym lead.2) ∙ same;
      }
  edge_from k m (Nonterminal a) merged there e =
      let (target, found, same) = some_of_map number_of _ m e in
      let (s, member, lead) = ((c.each k merged there).gotos a target).0 found in
      record {
        state = member.0;
        reached = reached_at member.0 s member.1;
        same = member.2;
        to = lead.0.0;
        edge = ap (λ (y : Contents). leads y (Nonterminal a)) (old_at member.0 s member.1) ∙ ap (option_map number_of) lead.1;
        same_target = ap (λ (y : StateIndex). y.0) (sym lead.2) ∙ same;
      }

  edge_at : (k m : ℕ) (x : Symbol) (o : Option (State Bits)) → slice_get after k ≡ o → leads (contents_at holds o) x ≡ Some m → LeadsInGroup number old k x m
  edge_at k m x None there e = absurd (no_leads x m e)
  edge_at k m x (Some merged) there e = edge_from k m x merged there e

  -- ---- reductions
  -- each reduction has an entry in the code's list of reductions
  reduced_of : (s : State Bits) (r : Reduction) → Contains (contents_of holds s).reductions r → (q : CodeReduction) × Contains s.reductions.items q × (reduction_of holds q ≡ r)
  reduced_of s r h = contains_of_map (reduction_of holds) s.reductions.items r h

  reduces_by : (s : State Bits) (p : Production) → ((r : Reduction) × Contains (contents_of holds s).reductions r × (r.production ≡ p)) ↔ ReducesBy p s
  reduces_by s p = (
    λ h. let q = reduced_of s h.0 h.1 in (q.0, q.1, ap (λ (r : Reduction). r.production) q.2 ∙ h.2),
    λ h. (reduction_of holds h.0, contains_map (reduction_of holds) s.reductions.items h.0 h.1, h.2),
  )

  finished_in : (n : ℕ) (s : State Bits) → slice_get before n ≡ Some s → (p : Production) → ReducesBy p s ↔ Contains (dots_in s) (p, length p.symbols)
  finished_in n s at p =
      let f = subst ReducesFinished (old_at n s at) (ordered.canonical.canonical.reductions n) in (
        λ h. (f.finished p).0 ((reduces_by s p).1 h),
        λ h. (reduces_by s p).0 ((f.finished p).1 h),
      )

  -- the reductions of a merged state rise by their productions
  in_order : (k : ℕ) (merged : State Bits) → slice_get after k ≡ Some merged → (i j : ℕ) (r q : CodeReduction) → i < j → slice_get merged.reductions.items i ≡ Some r → slice_get merged.reductions.items j ≡ Some q → production_order r.1.now q.1.now ≡ Less
  in_order k merged there i j r q l at_i at_j =
      let ps = map production_in merged.reductions.items in
      let d = production_in r in
      let first : slice_get ps i ≡ Some (production_in r) = slice_get-map production_in merged.reductions.items i ∙ ap (option_map production_in) at_i in
      let second : slice_get ps j ≡ Some (production_in q) = slice_get-map production_in merged.reductions.items j ∙ ap (option_map production_in) at_j in
      let less : production_order (get_or ps i d) (get_or ps j d) ≡ Less = Less-from_sorted production_order ps i j d (c.each k merged there).ascend l (slice_get_within ps j (production_in q) second) in
      subst (λ (p : Production). production_order r.1.now p ≡ Less) (get_or_from_slice_get ps j (production_in q) d second)
      (subst (λ (p : Production). production_order p (get_or ps j d) ≡ Less) (get_or_from_slice_get ps i (production_in r) d first) less)

  -- so each production is in one reduction
  one_reduction : (k : ℕ) (merged : State Bits) → slice_get after k ≡ Some merged → (r q : CodeReduction) → Contains merged.reductions.items r → Contains merged.reductions.items q → r.1.now ≡ q.1.now → r ≡ q
  one_reduction k merged there r q cr cq same =
      let i = place merged.reductions.items r cr in
      let j = place merged.reductions.items q cq in
      elim (places_apart i.0 j.0) [
        | inl l ↦ absurd (less_apart r.1.now q.1.now (in_order k merged there i.0 j.0 r q l i.2 j.2) same)
        | inr more ↦ elim more [
          | inl l ↦ absurd (less_apart q.1.now r.1.now (in_order k merged there j.0 i.0 q r l j.2 i.2) (sym same))
          | inr e ↦ same_some r q (sym i.2 ∙ ap (slice_get merged.reductions.items) e ∙ j.2)
        ]
      ]

  no_repeat : (k : ℕ) (merged : State Bits) → slice_get after k ≡ Some merged → HasNoRepeat (contents_of holds merged).reductions
  no_repeat k merged there i j r q l at_i at_j same =
      let a = some_of_map (reduction_of holds) (slice_get merged.reductions.items i) r (sym (slice_get-map (reduction_of holds) merged.reductions.items i) ∙ at_i) in
      let b = some_of_map (reduction_of holds) (slice_get merged.reductions.items j) q (sym (slice_get-map (reduction_of holds) merged.reductions.items j) ∙ at_j) in
      less_apart (a.0).1.now (b.0).1.now (in_order k merged there i j a.0 b.0 l a.1 b.1)
      (ap (λ (x : Reduction). x.production) a.2 ∙ same ∙ ap (λ (x : Reduction). x.production) (sym b.2))

  finishes : (k : ℕ) (merged : State Bits) → slice_get after k ≡ Some merged → ReducesFinished (contents_of holds merged)
  finishes k merged there =
      let m = c.each k merged there in
      record {
        finished = λ p. (
          λ h.
              let (s, member, by) = (m.reduces p).0 ((reduces_by merged p).0 h) in
              subst (λ (ds : List (Production × ℕ)). Contains ds (p, length p.symbols)) (m.listed s member) ((finished_in member.0 s member.1 p).0 by),
          λ h.
              let (s, member, none) = m.some in
              (reduces_by merged p).1 ((m.reduces p).1 (s, member, (finished_in member.0 s member.1 p).1 (subst (λ (ds : List (Production × ℕ)). Contains ds (p, length p.symbols)) (sym (m.listed s member)) h))),
        );
        once = no_repeat k merged there;
      }

  finishes_at : (k : ℕ) (o : Option (State Bits)) → slice_get after k ≡ o → ReducesFinished (contents_at holds o)
  finishes_at k None there = nothing_reduced
  finishes_at k (Some merged) there = finishes k merged there

  -- ---- tokens of reductions
  module _ (k : ℕ) (merged : State Bits) (there : slice_get after k ≡ Some merged) (q : CodeReduction) (among : Contains merged.reductions.items q) (t : Token) where
    held_from : holds q.0 t ≡ true → HoldsInGroup number old k q.1.now t
    held_from h =
        let bit = held_bit g.terminals q.0 t h in
        let (s, member, on) = ((c.each k merged there).holds q.1.now bit.0).0 (q, among, refl, bit.2) in
        record {
          state = member.0;
          reached = reached_at member.0 s member.1;
          same = member.2;
          reduction = reduction_of holds on.0;
          there = subst (λ (x : Contents). Contains x.reductions (reduction_of holds on.0)) (sym (old_at member.0 s member.1)) (contains_map (reduction_of holds) s.reductions.items on.0 on.1);
          by_p = on.2;
          holds = bit_held g.terminals on.0.0 t bit.0 bit.1 on.3;
        }

    held_in : HoldsInGroup number old k q.1.now t → holds q.0 t ≡ true
    held_in h =
        let s = state_of h.state h.reached in
        let r = reduced_of s.state h.reduction (subst (λ (x : Contents). Contains x.reductions h.reduction) (old_at h.state s.state s.at) h.there) in
        let by : (r.0).1.now ≡ q.1.now = ap (λ (x : Reduction). x.production) r.2 ∙ h.by_p in
        let bit = held_bit g.terminals (r.0).0 t (subst (λ (x : Reduction). x.holds t ≡ true) (sym r.2) h.holds) in
        let on = ((c.each k merged there).holds q.1.now bit.0).1 (s.state, (h.state, s.at, h.same), (r.0, r.1, by, bit.2)) in
        let same : on.0 ≡ q = one_reduction k merged there on.0 q on.1 among on.2 in
        bit_held g.terminals q.0 t bit.0 bit.1 (subst (λ (x : CodeReduction). has x.0 bit.0 ≡ true) same on.3)

  held_at : (k : ℕ) (o : Option (State Bits)) → slice_get after k ≡ o → (r : Reduction) (t : Token) → Contains (contents_at holds o).reductions r → (r.holds t ≡ true) ↔ HoldsInGroup number old k r.production t
  held_at k None there r t h = absurd (Contains-none r h)
  held_at k (Some merged) there r t h =
      let q = reduced_of merged r h in
      subst (λ (x : Reduction). (x.holds t ≡ true) ↔ HoldsInGroup number old k x.production t) q.2 (held_from k merged there q.0 q.1 t, held_in k merged there q.0 q.1 t)

  -- ---- the whole
  pub is_collapse : IsCollapse number old now
  is_collapse = record {
    first = first_group before after c ordered.some;
    one = one_number;
    items = items_same;
    edges = edges_go;
    only = λ k m x e. edge_at k m x (slice_get after k) refl e;
    reductions = λ k. finishes_at k (slice_get after k) refl;
    holds = λ k r t h. held_at k (slice_get after k) refl r t h;
  }
