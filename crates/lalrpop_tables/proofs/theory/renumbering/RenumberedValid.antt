-- States of live prefixes are such under other numbers, too.
use Rattle.std.proofs.Common.{◌≡◌, ◌↔◌, ℕ, ◌<◌, inl, inr, List, [], sym, ◌∙◌, ap, subst, arith, Some}
use Rattle.std.specs.Prelude.{Contains, slice_get, map}
use Rattle.std.proofs.lemmas.Bool.{cases_lt}
use Rattle.lalrpop_base.specs.Words.{Bits, Valid, ValidToken, Rules, HasItemToken, AreRenumbered}
use Rattle.lalrpop_construction.specs.Words.{IsStateFor, HaveSameContents, AreSomeCanonicalStates}
use Rattle.lalrpop_tables.proofs.Types.{NonterminalString, State, Symbol, TerminalString}
use Rattle.lalrpop_states.specs.states.Items.{dotted_of}
use Rattle.lalrpop_tables.proofs.theory.renumbering.RenumberedTables.{state_before}
use Rattle.lalrpop_collections.proofs.theory.lists.BothFacts.{turned_both}

-- a state with the same items is one of the same prefix
same_prefix : (g : Rules) (start : NonterminalString) (u : List Symbol) (before after : State Bits) → after.items ≡ before.items → IsStateFor g start u before → IsStateFor g start u after
same_prefix g start u before after same f = record {
  live = f.live;
  items = λ p dot. subst (λ is. Contains (map dotted_of is.vec.items) (p, dot) ↔ Valid g.productions start u p dot) (sym same) (f.items p dot);
  tokens = λ p dot t. subst (λ is. HasItemToken g.terminals is.vec.items p dot t ↔ ValidToken g.productions start u p dot t) (sym same) (f.tokens p dot t);
}

same_left : (terminals : List TerminalString) (a b c : State Bits) → b.items ≡ a.items → HaveSameContents terminals b c → HaveSameContents terminals a c
same_left terminals a b c same h = record {
  items = λ p dot. subst (λ is. Contains (map dotted_of is.vec.items) (p, dot) ↔ Contains (map dotted_of c.items.vec.items) (p, dot)) same (h.items p dot);
  tokens = λ p dot t. subst (λ is. HasItemToken terminals is.vec.items p dot t ↔ HasItemToken terminals c.items.vec.items p dot t) same (h.tokens p dot t);
}

same_turned : (terminals : List TerminalString) (a b : State Bits) → HaveSameContents terminals a b → HaveSameContents terminals b a
same_turned terminals a b h = record {
  items = λ p dot. turned_both (h.items p dot);
  tokens = λ p dot t. turned_both (h.tokens p dot t);
}

module _ (g : Rules) (start : NonterminalString) (before after : List (State Bits)) (r : AreRenumbered g.terminals before after) (c : AreSomeCanonicalStates g start before) where
  first_after : (s : State Bits) → slice_get after 0 ≡ Some s → IsStateFor g start [] s
  first_after s at =
      let b = state_before g.terminals before after r 0 s at in
      let old_zero : r.old 0 ≡ 0 = ap r.old (sym r.renumbering.fixes) ∙ r.renumbering.there 0 in
      same_prefix g start [] b.0 s b.2.items (c.first b.0 (ap (slice_get before) (sym old_zero) ∙ b.1))

  each_after : (n : ℕ) (s : State Bits) → slice_get after n ≡ Some s → (u : List Symbol) × IsStateFor g start u s
  each_after n s at =
      let b = state_before g.terminals before after r n s at in
      let p = c.each (r.old n) b.0 b.1 in
      (p.0, same_prefix g start p.0 b.0 s b.2.items p.1)

  differ_after : (n m : ℕ) (s t : State Bits) → n < m → slice_get after n ≡ Some s → slice_get after m ≡ Some t → ¬ HaveSameContents g.terminals s t
  differ_after n m s t l at_n at_m h =
      let a = state_before g.terminals before after r n s at_n in
      let b = state_before g.terminals before after r m t at_m in
      let left = same_left g.terminals a.0 s t a.2.items h in
      let old = same_turned g.terminals b.0 a.0 (same_left g.terminals b.0 t a.0 b.2.items (same_turned g.terminals a.0 t left)) in
      elim (cases_lt (r.old n) (r.old m)) [
        | inl below ↦ c.differ (r.old n) (r.old m) a.0 b.0 below a.1 b.1 old
        | inr above ↦ elim (cases_lt (r.old m) (r.old n)) [
          | inl below ↦ c.differ (r.old m) (r.old n) b.0 a.0 below b.1 a.1 (same_turned g.terminals a.0 b.0 old)
          | inr over ↦ absurd (let e : r.old n ≡ r.old m = omega arith in let f : n ≡ m = sym (r.renumbering.back n) ∙ ap r.new e ∙ r.renumbering.back m in omega arith)
        ]
      ]

  pub Valid-renumbered : AreSomeCanonicalStates g start after
  Valid-renumbered = record { first = first_after; each = each_after; differ = differ_after }
