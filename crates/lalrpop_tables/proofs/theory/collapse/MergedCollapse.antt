-- States that were numbered and placed, and whose reductions were joined, are the collapse of the
-- states before.
use Rattle.std.proofs.Common.{◌≡◌, ℕ, List, [], map, sym, ap, ◌∙◌, subst, arith, Some}
use Rattle.std.specs.Prelude.{◌↔◌, Contains, slice_get}
use Rattle.std.specs.Borrow.{Bor}
use Rattle.std.specs.BTreeMap.{get}
use Rattle.std.specs.List.{AllZip, flat_map}
use Rattle.std.proofs.lemmas.Option.{slice_get_within}
use Rattle.lalrpop_base.specs.Words.{Bits, dots, AreCollapsible, state_conflicts, name_cmp, AreFirstNumbers, IsReduced, AreMoved, number_in, IsRenumberedState, FailWith}
use Rattle.lalrpop_grammar.specs.contracts.repr.TerminalStringOrd.TheImpl as terminal_ord
use Rattle.lalrpop_tables.proofs.Types.{BuildError, Conflict, NonterminalString, Production, State, StateIndex, TerminalString}
use Rattle.lalrpop_states.specs.declared.lr1_core.state.BuildError.TheVariants.{Conflicts, Memory}
use Rattle.lalrpop_tables.specs.Words.{dots_in, HoldsAt, ReducesBy, ReducesOn, OfMember, IsMerge, HasNewNumber, IsCollapsed, AreCollapsedTables, FailsByCollapse}
use Rattle.lalrpop_states.specs.collapse.Merging.{ArePlaced}
use Rattle.lalrpop_tables.specs.collapse.Collapsed.{LeadsToRenumbered}
use Rattle.lalrpop_tables.proofs.theory.collapse.MergeableStates.{was, goes, as_many, moved_to, came_from, number_of_place, index_there, same_number, dots_moved, Numbered-merge}
use Rattle.lalrpop_tables.proofs.theory.collapse.MergedStates.{Merges, HasNumber, AreMerged, Placed-merged}
use Rattle.lalrpop_collections.proofs.theory.lists.Places.{same_some, filled}
use Rattle.lalrpop_collections.proofs.theory.lists.Members.{zipped_length}
use Rattle.lalrpop_collections.proofs.theory.lists.BothFacts.{then_both}
use Rattle.lalrpop_construction.proofs.theory.conflicts.GrownConflicts.{free_states}
use Rattle.lalrpop_collections.proofs.theory.lists.Zipped.{zip_old}

abbrev Reduction : Type 0
Reduction = Bits × Bor Production

-- ---- equivalences
module _ (before moved merged after : List (State Bits)) (numbers : List ℕ) (collapsible : AreCollapsible before) (named : AreFirstNumbers (map dots_in before) numbers) (under_new : AreMoved (number_in numbers) before moved) (placed : ArePlaced moved merged) (reduced : AllZip IsReduced merged after) where
  abbrev new : ℕ → ℕ
  new = number_in numbers

  are_merged : AreMerged moved merged
  are_merged = Placed-merged placed (Numbered-merge before moved numbers collapsible named under_new)

  -- a fact of a state with the number is one of a state that got the number
  members : (k : ℕ) (P Q : State Bits → Type 0) → ((s t : State Bits) → IsRenumberedState new s t → P s ↔ Q t) → OfMember (HasNumber moved k) Q ↔ OfMember (HasNewNumber new before k) P
  members k P Q same = (
    λ o.
        let s = came_from before moved numbers collapsible named under_new o.1.0 o.0 o.1.1 in
        (s.0, (o.1.0, s.1, sym (index_there before moved numbers collapsible named under_new o.1.0 o.0 o.1.1) ∙ o.1.2), (same s.0 o.0 s.2).1 o.2),
    λ o.
        let t = moved_to before moved numbers collapsible named under_new o.1.0 o.0 o.1.1 in
        (t.0, (o.1.0, t.1, index_there before moved numbers collapsible named under_new o.1.0 t.0 t.1 ∙ o.1.2), (same o.0 t.0 t.2).0 o.2),
  )

  module _ (k : ℕ) (m state : State Bits) (merges : Merges (HasNumber moved k) k m) (tidy : IsReduced m state) where
    abbrev Old : State Bits → Type 0
    Old = HasNewNumber new before k

    listed : (s : State Bits) → Old s → dots_in s ≡ dots_in state
    listed s o =
        let t = moved_to before moved numbers collapsible named under_new o.0 s o.1 in
        sym (dots_moved before moved numbers collapsible named under_new s t.0 t.2)
        ∙ merges.listed t.0 (o.0, t.1, index_there before moved numbers collapsible named under_new o.0 t.0 t.1 ∙ o.2)
        ∙ ap (λ is. dots is.vec.items) (sym tidy.items)

    tokens : (n bit : ℕ) → HoldsAt n bit state ↔ OfMember Old (HoldsAt n bit)
    tokens n bit =
        then_both (
          λ h. (h.0, ap (λ is. slice_get is.vec.items n) (sym tidy.items) ∙ h.1, h.2),
          λ h. (h.0, ap (λ is. slice_get is.vec.items n) tidy.items ∙ h.1, h.2),
        ) (then_both (merges.tokens n bit) (members k (HoldsAt n bit) (HoldsAt n bit) (λ s t r. (
          λ h. (h.0, ap (λ is. slice_get is.vec.items n) r.items ∙ h.1, h.2),
          λ h. (h.0, ap (λ is. slice_get is.vec.items n) (sym r.items) ∙ h.1, h.2),
        ))))

    shifts : (t : TerminalString) (target : StateIndex) → (get terminal_ord.ghosts.cmp state.shifts t ≡ Some target) ↔ OfMember Old (λ s. LeadsToRenumbered terminal_ord.ghosts.cmp new s.shifts t target)
    shifts t target =
        then_both (λ e. ap (λ es. get terminal_ord.ghosts.cmp es t) (sym tidy.shifts) ∙ e, λ e. ap (λ es. get terminal_ord.ghosts.cmp es t) tidy.shifts ∙ e)
        (then_both (merges.shifts t target) (members k (λ (s : State Bits). LeadsToRenumbered terminal_ord.ghosts.cmp new s.shifts t target) (λ (s : State Bits). get terminal_ord.ghosts.cmp s.shifts t ≡ Some target) (λ s u r. (
          goes terminal_ord.ghosts.cmp new s.shifts u.shifts r.shifts t target,
          was terminal_ord.ghosts.cmp new s.shifts u.shifts r.shifts t target,
        ))))

    gotos : (name : NonterminalString) (target : StateIndex) → (get name_cmp state.gotos name ≡ Some target) ↔ OfMember Old (λ s. LeadsToRenumbered name_cmp new s.gotos name target)
    gotos t target =
        then_both (λ e. ap (λ es. get name_cmp es t) (sym tidy.gotos) ∙ e, λ e. ap (λ es. get name_cmp es t) tidy.gotos ∙ e)
        (then_both (merges.gotos t target) (members k (λ (s : State Bits). LeadsToRenumbered name_cmp new s.gotos t target) (λ (s : State Bits). get name_cmp s.gotos t ≡ Some target) (λ s u r. (
          goes name_cmp new s.gotos u.gotos r.gotos t target,
          was name_cmp new s.gotos u.gotos r.gotos t target,
        ))))

    abbrev Has : Reduction → State Bits → Type 0
    Has r s = Contains s.reductions.items r

    has_from : (r : Reduction) → Has r m ↔ OfMember Old (Has r)
    has_from r = then_both (merges.reductions r) (members k (Has r) (Has r) (λ s t e. (
      λ h. subst (λ rs. Contains rs.items r) (sym e.reductions) h,
      λ h. subst (λ rs. Contains rs.items r) e.reductions h,
    )))

    reduces : (p : Production) → ReducesBy p state ↔ OfMember Old (ReducesBy p)
    reduces p = then_both (tidy.reductions.reduces p) (
      λ h. let o = (has_from h.0).0 h.1 in (o.0, o.1, (h.0, o.2, h.2)),
      λ o. let h = o.2 in (h.0, (has_from h.0).1 (o.0, o.1, h.1), h.2),
    )

    holds : (p : Production) (bit : ℕ) → ReducesOn p bit state ↔ OfMember Old (ReducesOn p bit)
    holds p bit = then_both (tidy.reductions.holds p bit) (
      λ h. let o = (has_from h.0).0 h.1 in (o.0, o.1, (h.0, o.2, h.2, h.3)),
      λ o. let h = o.2 in (h.0, (has_from h.0).1 (o.0, o.1, h.1), h.2, h.3),
    )

    some : OfMember Old (λ _. Unit {0})
    some =
        let t = merges.some in
        let s = came_from before moved numbers collapsible named under_new t.1.0 t.0 t.1.1 in
        (s.0, (t.1.0, s.1, sym (index_there before moved numbers collapsible named under_new t.1.0 t.0 t.1.1) ∙ t.1.2), tt)

    is_merge : IsMerge Old new k state
    is_merge = record {
      index = ap (λ (i : StateIndex). i.0) tidy.index ∙ merges.index;
      some = some;
      listed = listed;
      tokens = tokens;
      shifts = shifts;
      gotos = gotos;
      reduces = reduces;
      holds = holds;
      ascend = tidy.reductions.ascend;
    }

  pub Merged-collapsed : IsCollapsed before after
  Merged-collapsed = record {
    numbers = numbers;
    counted = as_many before moved numbers collapsible named under_new;
    below = λ n m at.
        let s = filled before n (omega (arith, slice_get_within numbers n m at, as_many before moved numbers collapsible named under_new)) in
        let t = moved_to before moved numbers collapsible named under_new n s.0 s.1 in
        let k = number_of_place before moved numbers collapsible named under_new n s.0 s.1 in
        let index : t.0.index.0 ≡ m = index_there before moved numbers collapsible named under_new n t.0 t.1 ∙ k.2 ∙ same_some k.0 m (sym k.1 ∙ at) in
        let b = are_merged.below n t.0 t.1 in
        let l = zipped_length IsReduced merged after reduced in
        omega arith;
    first = named.first;
    one = λ n m a b at_n at_m e. same_number before moved numbers collapsible named under_new n m a b at_n at_m e;
    each = λ k state at.
        let m = zip_old IsReduced merged after reduced k state at in
        is_merge k m.0 state (are_merged.each k m.0 m.1) m.2;
  }

-- ---- the states as tables, or with their conflicts
module _ (terminals : List TerminalString) (before after : List (State Bits)) (conflicts : List (Conflict Bits)) (collapsed : IsCollapsed before after) (all : conflicts ≡ flat_map (state_conflicts terminals) after) where
  pub Collapse-tables : (tables : List (State Bits)) → tables ≡ after → conflicts ≡ [] → AreCollapsedTables terminals before tables
  Collapse-tables tables e none = subst (AreCollapsedTables terminals before) (sym e) (record { collapsed = collapsed; free = free_states terminals after (sym all ∙ none) })

  pub Collapse-failure : (error : BuildError Bits) → FailWith after conflicts error → FailsByCollapse terminals before error
  Collapse-failure (Conflicts error) f = (
    subst (IsCollapsed before) (sym f.0) collapsed,
    record {
      all = f.1 ∙ all ∙ ap (flat_map (state_conflicts terminals)) (sym f.0);
      some = λ none. f.2 (sym f.1 ∙ none);
    },
  )
  Collapse-failure Memory f = tt
