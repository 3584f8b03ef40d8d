-- The errors of a construction may be explained: the items of its states and the reductions of its
-- conflicts have productions of the grammar.
use Rattle.std.proofs.Common.{◌≡◌, ℕ, inl, inr, Bool, true, false, cond, ◌==◌, List, [], ◌∷◌, length, ap, refl, subst, Option, Some, None}
use Rattle.std.specs.Prelude.{Contains, slice_get}
use Rattle.std.specs.List.{filter, flat_map}
use Rattle.std.proofs.lemmas.List.Elements.{Contains-append_cases}
use Rattle.lalrpop_base.specs.Words.{Bits, has, Dotted, share, shift_conflict, conflicts_on_place, shift_conflicts, reduce_conflict, later_conflicts}
use Rattle.lalrpop_base.specs.Words.{reduce_conflicts, state_conflicts, place_in, productions, IsWellFormed, rules_of, AreAllConflicts}
use Rattle.lalrpop_tables.specs.Words.{AreStatesOf, HasConflictsOf, canonical_of}
use Rattle.lalrpop_base.specs.Words.{reductions_of, seen_reduction}
use Rattle.lalrpop_states.specs.conflicts.StateConflicts.{StateReduction}
use Rattle.lalrpop_states.specs.declared.lr1_core.state.Conflict.{Conflict}
use Rattle.lalrpop_states.specs.declared.lr1_core.state.State.{State}
use Rattle.lalrpop_states.specs.declared.lr1_core.state.StateIndex.{StateIndex}
use Rattle.lalrpop_states.specs.declared.lr1_core.state.TableConstructionError.{TableConstructionError}
use Rattle.lalrpop_grammar.specs.declared.repr.NonterminalString.{NonterminalString}
use Rattle.lalrpop_grammar.specs.declared.repr.Production.{Production}
use Rattle.lalrpop_grammar.specs.declared.repr.TerminalString.{TerminalString}
use Rattle.lalrpop_grammar.specs.declared.repr.grammar.Grammar.{Grammar}
use Rattle.lalrpop_collections.proofs.theory.lists.Lists.{contains_of_map, contains_map, contains_place}
use Rattle.lalrpop_grammar.proofs.theory.grammars.Grammars.{known_symbols}
use Rattle.lalrpop_collections.proofs.theory.lists.Filters.{of_kept}
use Rattle.lalrpop_collections.proofs.theory.lists.Members.{Contains-none, contains_head, contains_tail, contains-cons, of_flat}
use Rattle.lalrpop_explain.specs.Words.{AreOwnConflicts, AreOwnStates, IsOwnConflict, IsOwnError}

-- ---- reductions by some productions, and conflicts of them
abbrev AreOwn : List Production → List StateReduction → Type 0
AreOwn ps rs = (r : StateReduction) → Contains rs r → Contains ps r.1.now

module _ (ps : List Production) (terminals : List TerminalString) (number : StateIndex) where
  own_on_place : (rs : List StateReduction) → AreOwn ps rs → (t : TerminalString) (target : StateIndex) (o : Option ℕ) (c : Conflict Bits) → Contains (conflicts_on_place number t target rs o) c → IsOwnConflict ps c
  own_on_place rs own t target None c i = absurd (Contains-none c i)
  own_on_place rs own t target (Some bit) c i =
      let r = contains_of_map (shift_conflict number t target bit) (filter (λ (q : StateReduction). has q.0 bit) rs) c i in
      subst (IsOwnConflict ps) r.2 (record { production = own r.0 (of_kept (λ (q : StateReduction). has q.0 bit) rs r.0 r.1); action = tt })

  own_shifts : (rs : List StateReduction) → AreOwn ps rs → (es : List (TerminalString × StateIndex)) (c : Conflict Bits) → Contains (flat_map (shift_conflicts terminals number rs) es) c → IsOwnConflict ps c
  own_shifts rs own [] c i = absurd (Contains-none c i)
  own_shifts rs own ((t, target) ∷ es) c i = elim (Contains-append_cases (conflicts_on_place number t target rs (place_in terminals t)) (flat_map (shift_conflicts terminals number rs) es) c i) [
    | inl here ↦ own_on_place rs own t target (place_in terminals t) c here
    | inr later ↦ own_shifts rs own es c later
  ]

  own_reductions : (rs : List StateReduction) → AreOwn ps rs → (c : Conflict Bits) → Contains (reduce_conflicts number rs) c → IsOwnConflict ps c
  own_reductions [] own c i = absurd (Contains-none c i)
  own_reductions (r ∷ rs) own c i = elim (Contains-append_cases (later_conflicts number r rs) (reduce_conflicts number rs) c i) [
    | inl here ↦ let q = contains_of_map (reduce_conflict number r) (filter (λ (s : StateReduction). share r.0 s.0) rs) c here in
        subst (IsOwnConflict ps) q.2 (record {
          production = own r (contains_head r rs);
          action = own q.0 (contains_tail r rs q.0 (of_kept (λ (s : StateReduction). share r.0 s.0) rs q.0 q.1));
        })
    | inr later ↦ own_reductions rs (λ q k. own q (contains_tail r rs q k)) c later
  ]

own_conflict : (ps : List Production) (terminals : List TerminalString) (state : State Bits) → AreOwn ps state.reductions.items → (c : Conflict Bits) → Contains (state_conflicts terminals state) c → IsOwnConflict ps c
own_conflict ps terminals state own c i = elim (Contains-append_cases (flat_map (shift_conflicts terminals state.index state.reductions.items) state.shifts.entries) (reduce_conflicts state.index state.reductions.items) c i) [
  | inl s ↦ own_shifts ps terminals state.index state.reductions.items own state.shifts.entries c s
  | inr r ↦ own_reductions ps terminals state.index state.reductions.items own c r
]

-- ---- the reductions of a state are by productions of its items
abbrev IsOfItem : List (Dotted Bits) → Bits × Production → Type 0
IsOfItem items r = (i : Dotted Bits) × Contains items i × (i.production ≡ r.1)

of_item_at : (i : Dotted Bits) (items : List (Dotted Bits)) (r : Bits × Production) (b : Bool) → Contains (cond b ((i.lookahead, i.production) ∷ reductions_of items) (reductions_of items)) r → (Contains (reductions_of items) r → IsOfItem items r) → IsOfItem (i ∷ items) r
of_item_at i items r true c later = elim (contains-cons (i.lookahead, i.production) (reductions_of items) r c) [
  | inl e ↦ (i, contains_head i items, ap (λ (q : Bits × Production). q.1) e)
  | inr more ↦ let f = later more in (f.0, contains_tail i items f.0 f.1, f.2)
]
of_item_at i items r false c later = let f = later c in (f.0, contains_tail i items f.0 f.1, f.2)

of_item : (items : List (Dotted Bits)) (r : Bits × Production) → Contains (reductions_of items) r → IsOfItem items r
of_item [] r c = absurd (Contains-none r c)
of_item (i ∷ items) r c = of_item_at i items r (i.index == length i.production.symbols) c (of_item items r)

-- ---- constructed states
module _ (g : Grammar) (start : NonterminalString) (states : List (State Bits)) (made : AreStatesOf (canonical_of g start) states) where
  pub own_states : IsWellFormed g → AreOwnStates (rules_of g) states
  own_states well = record {
    known = λ p c. known_symbols g p well c;
    items = λ n i h. ((made.built.each n.0 h.0 h.1).built.closure.are_items.each i h.2).production;
  }

  own_at : (k : ℕ) (state : State Bits) → slice_get states k ≡ Some state → AreOwn (productions g) state.reductions.items
  own_at k state at r c =
      let b = (made.built.each k state at).built in
      let f = of_item state.items.vec.items (seen_reduction r) (subst (λ (xs : List (Bits × Production)). Contains xs (seen_reduction r)) b.finished (contains_map seen_reduction state.reductions.items r c)) in
      subst (Contains (productions g)) f.2 (b.closure.are_items.each f.0 f.1).production

  pub own_conflicts : (conflicts : List (Conflict Bits)) → AreAllConflicts g.terminals states conflicts → AreOwnConflicts (productions g) conflicts
  own_conflicts conflicts all c i =
      let f = of_flat (state_conflicts g.terminals) states c (subst (λ (cs : List (Conflict Bits)). Contains cs c) all.all i) in
      let at = contains_place states f.0 f.1 in
      own_conflict (productions g) g.terminals f.0 (own_at at.0 f.0 at.1) c f.2

-- the error of a construction that does not stop early may be explained, if states are not
-- collapsed
pub own_error : (g : Grammar) (start : NonterminalString) (error : TableConstructionError Bits) (collapsed : Type 0) → ¬ collapsed → IsWellFormed g → HasConflictsOf collapsed 0 g start error → IsOwnError (rules_of g) error
own_error g start error collapsed not well f =
    let made = f.built not refl in
    record { states = own_states g start error.states.items made well; conflicts = own_conflicts g start error.states.items made error.conflicts.items (f.all not refl) }
