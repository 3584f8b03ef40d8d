-- Renumbered tables have a state and no conflict, as before, and stay faithful. Their number stays:
-- it is that of the LR(0) states, or at most that and the copies.
use Rattle.std.proofs.Common.{◌≡◌, ◌⊎◌, ◌<◌, ℕ, inl, inr, ⊎_elim, List, length, sym, ◌∙◌, ap, subst, arith, Some}
use Rattle.std.specs.Prelude.{Contains, slice_get}
use Rattle.std.proofs.lemmas.Bool.{cases_lt}
use Rattle.std.proofs.lemmas.Option.{slice_get_within}
use Rattle.lalrpop_base.specs.Words.{Bits, contents, AreFaithful, Rules, rules_of, IsRenumberedState, AreRenumbered, number_in, AreAllConflictFree, Ascend, FitsTokens}
use Rattle.lalrpop_construction.specs.Words.{AreOrderedCanonical}
use Rattle.lalrpop_states.specs.conflicts.StateConflicts.{IsConflictFree}
use Rattle.lalrpop_states.specs.declared.lr1_core.state.Items.{Items}
use Rattle.lalrpop_tables.proofs.Types.{Grammar, NonterminalString, Production, State, TerminalString}
use Rattle.lr1_theory.proofs.theory.renumbering.Renumbering.{faithful-renumbered}
use Rattle.lalrpop_tables.specs.Words.{AreMergedTables, AreRenumberedMerged}
use Rattle.lalrpop_lane_states.specs.Words.{AreLaneTables, HaveFullItems, AreCopiedTables, AreLr0Copies}
use Rattle.lalrpop_tables.specs.Words.{AreRenumberedCopies, AreRenumberedTables, AreRenumberedLaneTables}
use Rattle.lalrpop_construction.specs.Words.{Construction, AreTables, canonical_of}
use Rattle.lalrpop_collections.proofs.theory.lists.Places.{same_some, filled}
use Rattle.lr1_theory.proofs.theory.renumbering.Renumbered.{entry_from}
use Rattle.std.specs.Borrow.{Bor}
use Rattle.lalrpop_tables.proofs.theory.renumbering.RenumberedCanonical.{Canonical-renumbered}

-- a state has no conflict under another number if it had none
no_conflict_after : (new : ℕ → ℕ) (terminals : List TerminalString) (before after : State Bits) → IsRenumberedState new before after → IsConflictFree terminals before → IsConflictFree terminals after
no_conflict_after new terminals before after r h = record {
  shifts = λ k j bit t target q at place there.
      let d = entry_from new before.shifts.entries after.shifts.entries r.shifts k (t, target) at in
      let at_old = d.1 ∙ ap (λ (u : TerminalString). Some (u, d.0.1)) d.2 in
      h.shifts k j bit t d.0.1 q at_old place (ap (λ rs. slice_get rs.items j) (sym r.reductions) ∙ there);
  reductions = λ i j bit q s l at there. h.reductions i j bit q s l (ap (λ rs. slice_get rs.items i) (sym r.reductions) ∙ at) (ap (λ rs. slice_get rs.items j) (sym r.reductions) ∙ there);
}

module _ (terminals : List TerminalString) (before after : List (State Bits)) (r : AreRenumbered terminals before after) where
  -- each state was one under its old number
  pub state_before : (k : ℕ) (state : State Bits) → slice_get after k ≡ Some state → (old : State Bits) × (slice_get before (r.old k) ≡ Some old) × IsRenumberedState r.new old state
  state_before k state at = elim (cases_lt (r.old k) (length before)) [
    | inl inside ↦
        let x = filled before (r.old k) inside in
        let t = r.each (r.old k) x.0 x.1 in
        let same : t.0 ≡ state = same_some t.0 state (sym t.1 ∙ ap (slice_get after) (r.renumbering.back k) ∙ at) in
        (x.0, x.1, subst (IsRenumberedState r.new x.0) same t.2)
    | inr past ↦ absurd (let o = r.outside (r.old k) past in let b = r.renumbering.back k in let c = r.counted in let w = slice_get_within after k state at in omega arith)
  ]

  pub Free-renumbered : AreAllConflictFree terminals before → AreAllConflictFree terminals after
  Free-renumbered free k state at = let x = state_before k state at in no_conflict_after r.new terminals x.0 state x.2 (free (r.old k) x.0 x.1)

  pub Items-renumbered : HaveFullItems terminals before → HaveFullItems terminals after
  Items-renumbered full k state item at among = let x = state_before k state at in full (r.old k) x.0 item x.1 (subst (λ (items : Items Bits). Contains items.vec.items item) (x.2).items among)

  pub Some-renumbered : 0 < length before → 0 < length after
  Some-renumbered some = let k = r.counted in omega arith

  pub Faithful-renumbered : (g : List Production) (start : NonterminalString) → AreFaithful g start (contents terminals before) → AreFaithful g start (contents terminals after)
  Faithful-renumbered g start f = faithful-renumbered r.new r.old (contents terminals before) (contents terminals after) r.renumbering g start f

pub Tables-renumbered : (c : Construction Bits) (built tables : List (State Bits)) → AreTables c built → AreRenumbered c.rules.terminals built tables → AreRenumberedTables c tables
Tables-renumbered c built tables made r = record {
  built = built;
  made = made;
  renumbered = r;
  some = let l = made.made.some in let k = r.counted in omega arith;
  free = Free-renumbered c.rules.terminals built tables r made.free;
}

pub Merged-renumbered : (g : Grammar) (start : NonterminalString) (built tables : List (State Bits)) → AreMergedTables g start built → AreRenumbered g.terminals built tables → AreRenumberedMerged g start tables
Merged-renumbered g start built tables made r = record {
  built = built;
  made = made;
  renumbered = r;
  free = Free-renumbered g.terminals built tables r made.merged.free;
}

pub Lanes-renumbered : (g : Rules) (start : NonterminalString) (built tables : List (State Bits)) → AreLaneTables g start built → AreRenumbered g.terminals built tables → AreRenumberedLaneTables g start tables
Lanes-renumbered g start built tables lanes r = record {
  built = built;
  lanes = lanes;
  renumbered = r;
  free = Free-renumbered g.terminals built tables r lanes.free;
  items = Items-renumbered g.terminals built tables r lanes.made.items;
  bare = lanes.made.bare;
  lr0 = lanes.made.lr0;
  counted = r.counted ∙ lanes.made.same.counted;
}

-- a copy has the items of its original, which hold all tokens
pub Copied-items : (g : Rules) (start : NonterminalString) (copies : ℕ) (states : List (State Bits)) → AreLr0Copies g start copies states → HaveFullItems g.terminals states
Copied-items g start copies states made n state item at among =
    let copy = made.each.each n state at in
    made.made.items (number_in made.originals n) copy.0 item copy.1 (subst (λ items. Contains items item) copy.2.items among)

pub Copies-renumbered : (g : Rules) (start : NonterminalString) (copies : ℕ) (built tables : List (State Bits)) → AreCopiedTables g start copies built → AreRenumbered g.terminals built tables → AreRenumberedCopies g start copies tables
Copies-renumbered g start copies built tables copied r = record {
  built = built;
  copied = copied;
  renumbered = r;
  free = Free-renumbered g.terminals built tables r copied.free;
  items = Items-renumbered g.terminals built tables r (Copied-items g start copies built copied.made);
  bare = copied.made.made.bare;
  lr0 = copied.made.made.lr0;
  counted = let k = r.counted in let m = copied.made.counted in let s = copied.made.made.same.counted in omega arith;
}

pub Either-renumbered : (g : Grammar) (start : NonterminalString) (copies : ℕ) (built tables : List (State Bits)) → AreCopiedTables (rules_of g) start copies built ⊎ AreTables (canonical_of g start) built → AreRenumbered g.terminals built tables →
    AreRenumberedCopies (rules_of g) start copies tables ⊎ AreRenumberedTables (canonical_of g start) tables
Either-renumbered g start copies built tables either r = ⊎_elim (λ copied. inl (Copies-renumbered (rules_of g) start copies built tables copied r)) (λ made. inr (Tables-renumbered (canonical_of g start) built tables made r)) either

pub Ordered-renumbered : (g : Grammar) (start : NonterminalString) (before after : List (State Bits)) → AreRenumbered g.terminals before after → AreOrderedCanonical g start before → AreOrderedCanonical g start after
Ordered-renumbered g start before after r o = record {
  canonical = Canonical-renumbered (rules_of g) before after r start o.canonical;
  coherent = r.coherent;
  some = Some-renumbered g.terminals before after r o.some;
  ascend = λ n s at.
      let b = state_before g.terminals before after r n s at in
      subst (λ is. Ascend is.vec.items) (sym b.2.items) (o.ascend (r.old n) b.0 b.1);
  fit = λ n s at.
      let b = state_before g.terminals before after r n s at in
      subst (λ rs. (q : Bits × Bor Production) → Contains rs.items q → FitsTokens g.terminals q.0) (sym b.2.reductions) (o.fit (r.old n) b.0 b.1);
}
