-- Merged states are coherent if the states that were merged are.
use Rattle.std.proofs.Common.{◌≡◌, ℕ, ◌<◌, List, length, refl, sym, ◌∙◌, ap, subst, arith, Some}
use Rattle.std.specs.Prelude.{Contains, slice_get, IfSome}
use Rattle.std.specs.BTreeMap.{BTreeMap, get}
use Rattle.std.specs.Cmp.{IsTotalOrder}
use Rattle.std.specs.declared.cmp.Ordering.{Ordering}
use Rattle.std.proofs.lemmas.Map.Entries.{btree_map_get_place}
use Rattle.std.proofs.lemmas.Map.Lookups.{CmpEqualImpliesEq}
use Rattle.std.proofs.lemmas.Map.Views.{IfSome-get}
use Rattle.std.proofs.lemmas.Option.{slice_get_within}
use Rattle.lalrpop_base.specs.Words.{Bits, HasItem, IsCoherentStep, StartsAtZero, AreFinished, AreCoherent, retargeted}
use Rattle.lalrpop_tables.specs.Words.{dots_in, IsCollapsed, AreOrdered}
use Rattle.lalrpop_grammar.specs.contracts.repr.NonterminalStringOrd.TheImpl as name_ord
use Rattle.lalrpop_grammar.specs.contracts.repr.TerminalStringOrd.TheImpl as terminal_ord
use Rattle.lalrpop_tables.proofs.Types.{Production, State, StateIndex, Symbol}
use Rattle.lalrpop_grammar.specs.declared.repr.Symbol.TheVariants.{Nonterminal, Terminal}
use Rattle.lalrpop_states.proofs.theory.states.ContentsViews.{terminals_ordered, names_ordered}
use Rattle.lalrpop_tables.proofs.theory.collapse.CollapseDots.{item_at, has_item_over, edge_over, group, merged_of, first_group}
use Rattle.lalrpop_collections.proofs.theory.lists.Members.{place}
use Rattle.lalrpop_collections.proofs.theory.lists.Places.{contains_at, filled}

-- the target that a map has at a key is one of its entries
entry_at : {K : Type 0} {R : K → K → Ordering} → IsTotalOrder R → CmpEqualImpliesEq R → (m : BTreeMap K StateIndex) (key : K) (target : StateIndex) → get R m key ≡ Some target → (k : ℕ) × (slice_get m.entries k ≡ Some (key, target))
entry_at {R = R} total exact m key target e =
    let there = subst (λ o. IfSome o (λ v. Contains m.entries (key, v))) e (IfSome-get total exact m key) in
    let at = place m.entries (key, target) there in
    (at.0, at.2)

module _ (before after : List (State Bits)) (coherent : AreCoherent before) (c : IsCollapsed before after) (ordered : AreOrdered after) where
  -- a coherent step of a state is one of the merged state
  step_over : (s merged : State Bits) (x : Symbol) (old target : StateIndex) → dots_in s ≡ dots_in merged → IsCoherentStep before s.items.vec.items x old.0 → target ≡ retargeted (group before after c) old → IsCoherentStep after merged.items.vec.items x target.0
  step_over s merged x old target same step e =
      let to = merged_of before after c old.0 step.to step.there in
      record {
        to = to.0;
        there = ap (λ (t : StateIndex). slice_get after t.0) e ∙ to.1;
        came = edge_over s.items.vec.items merged.items.vec.items step.to.items.vec.items to.0.items.vec.items x same to.2 step.came;
      }

  module _ (k : ℕ) (merged : State Bits) (at : slice_get after k ≡ Some merged) where
    shifts_on : (j : ℕ) (e : _ × StateIndex) → slice_get merged.shifts.entries j ≡ Some e → IsCoherentStep after merged.items.vec.items (Terminal e.0) e.1.0
    shifts_on j (t, target) there =
        let m = c.each k merged at in
        let found = btree_map_get_place terminal_ord.Laws.total-law merged.shifts j t target (ordered k merged at).shifts there in
        let (s, member, leads) = (m.shifts t target).0 found in
        let entry = entry_at terminal_ord.Laws.total-law terminals_ordered s.shifts t leads.0 leads.1 in
        step_over s merged (Terminal t) leads.0 target (m.listed s member) ((coherent member.0 s member.1).shifts entry.0 (t, leads.0) entry.1) leads.2

    gotos_on : (j : ℕ) (e : _ × StateIndex) → slice_get merged.gotos.entries j ≡ Some e → IsCoherentStep after merged.items.vec.items (Nonterminal e.0) e.1.0
    gotos_on j (name, target) there =
        let m = c.each k merged at in
        let found = btree_map_get_place name_ord.Laws.total-law merged.gotos j name target (ordered k merged at).gotos there in
        let (s, member, leads) = (m.gotos name target).0 found in
        let entry = entry_at name_ord.Laws.total-law names_ordered s.gotos name leads.0 leads.1 in
        step_over s merged (Nonterminal name) leads.0 target (m.listed s member) ((coherent member.0 s member.1).gotos entry.0 (name, leads.0) entry.1) leads.2

    -- the first of the merged states has the dotted productions of state 0
    started : k ≡ 0 → StartsAtZero merged.items.vec.items
    started zero j item there =
        let m = c.each k merged at in
        let (s, member, none) = m.some in
        let l = slice_get_within before member.0 s member.1 in
        let some : 0 < length before = omega arith in
        let first = filled before 0 some in
        let same = m.listed first.0 (0, first.1, first_group before after c some ∙ sym zero) in
        let i = item_at merged.items.vec.items first.0.items.vec.items (sym same) j item there in
        sym i.3 ∙ (coherent 0 first.0 first.1).start refl j i.0 i.1

    finished : AreFinished merged.items.vec.items merged.reductions.items
    finished j r there =
        let m = c.each k merged at in
        let (s, member, by) = (m.reduces r.1.now).0 (r, contains_at merged.reductions.items r j there, refl) in
        let q_at = place s.reductions.items by.0 by.1 in
        let item = (coherent member.0 s member.1).finished q_at.0 by.0 q_at.2 in
        has_item_over s.items.vec.items merged.items.vec.items (m.listed s member) r.1.now (length r.1.now.symbols)
        (subst (λ (p : Production). HasItem s.items.vec.items p (length p.symbols)) by.2 item)

  pub Collapsed-coherent : AreCoherent after
  Collapsed-coherent k merged at = record {
    numbered = (c.each k merged at).index;
    start = started k merged at;
    shifts = shifts_on k merged at;
    gotos = gotos_on k merged at;
    finished = finished k merged at;
  }
