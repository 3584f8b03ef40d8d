-- The conflicts of canonical states are the canonical conflicts of the prefixes that lead to them.
use Rattle.std.proofs.Common.{◌≡◌, ℕ, ◌+◌, ◌<◌, List, [], ◌∷◌, length, map, refl, sym, ◌∙◌, ap, subst, arith, Bool, true, false, cond, ◌==◌, Option, Some, None, inl, inr}
use Rattle.std.specs.Prelude.{Contains, slice_get, option_map}
use Rattle.std.specs.declared.cmp.Ordering.{Ordering}
use Rattle.std.specs.BTreeMap.{keys, IsOrdered}
use Rattle.std.specs.Cmp.{IsTotalOrder}
use Rattle.std.specs.Ordering.{ordering_reverse}
use Rattle.std.specs.List.{flat_map}
use Rattle.std.proofs.lemmas.Map.Entries.{btree_map_get_place}
use Rattle.std.proofs.lemmas.Map.Lookups.{CmpEqualImpliesEq}
use Rattle.std.proofs.lemmas.Option.{slice_get_within}
use Rattle.lalrpop_base.specs.Words.{Bits, AreCanonical, IsOrder, AreConflictsOf, AreCanonicalConflicts, ReducesInOrder, holds_token, number_of, no_contents}
use Rattle.lalrpop_base.specs.Words.{contents_of, contents_at, contents, Dotted, AllDiffer, state_conflicts, HasNoRepeat, LeadsOverDots, state_after, FitsTokens}
use Rattle.lalrpop_base.specs.Words.{Rules, rules_of, productions, IsWellFormed, AreItems}
use Rattle.lalrpop_construction.specs.Words.{listed_of, AreCanonicalConflictsOf, AreConflictsOfFailure}
use Rattle.lalrpop_construction.specs.Words.{conflicts_of, AreStatesOf, canonical_of}
use Rattle.lalrpop_base.specs.Words.{AreAllConflicts, reductions_of, seen_reduction}
use Rattle.lalrpop_grammar.specs.contracts.repr.exact.ProductionExact.TheImpl as production_exactly
use Rattle.lalrpop_grammar.specs.contracts.repr.ProductionOrd.TheImpl as production_ord
use Rattle.lalrpop_grammar.specs.contracts.repr.ProductionPartialEq.TheImpl as production_eq
use Rattle.lalrpop_construction.proofs.Types.{Conflict, Grammar, NonterminalString, Production, State, StateIndex, Symbol, TerminalString, Token}
use Rattle.lalrpop_states.specs.declared.lr1_core.state.Action.TheVariants.{Shift}
use Rattle.lalrpop_grammar.specs.declared.repr.Symbol.TheVariants.{Terminal}
use Rattle.lr1_theory.proofs.theory.conflicts.Conflicts.{state_conflicts as canonical_conflicts, empty_list}
use Rattle.lalrpop_states.proofs.theory.closures.Closing.{split_drop}
use Rattle.lalrpop_grammar.proofs.theory.grammars.Grammars.{known_symbols}
use Rattle.lalrpop_construction.proofs.theory.conflicts.ListedConflicts.{CodeReduction, keys_shifted, conflicts_are_listed}
use Rattle.lalrpop_collections.proofs.theory.lists.Members.{Contains-none, contains_head, contains_tail, contains-cons, contains_map}
use Rattle.lalrpop_construction.proofs.theory.conflicts.NumberedConflicts.{AreNumberedFrom, conflicts_at, Listed-at, Listed-ascend, Listed-from}
use Rattle.lalrpop_grammar.proofs.theory.grammars.NameOrders.{terminal_order, terminal_total}
use Rattle.lalrpop_construction.proofs.theory.construction.Shifting.{of_dotted}
use Rattle.lalrpop_collections.proofs.theory.lists.Updates.{exact_order}
use Rattle.lalrpop_construction.proofs.theory.conflicts.ConflictFree.{nowhere_conflict}
use Rattle.lalrpop_collections.proofs.theory.lists.Lists.{contains_place}

-- ---- the order of productions
order_of : {X : Type 0} (order : X → X → Ordering) → IsTotalOrder order → CmpEqualImpliesEq order → IsOrder order
order_of order total exact = record {
  ties = exact;
  turned = λ x y h. total.antisymm y x ∙ ap ordering_reverse h;
  turned_back = λ x y h. total.antisymm y x ∙ ap ordering_reverse h;
}

pub productions_ordered : IsOrder production_ord.ghosts.cmp
productions_ordered = order_of production_ord.ghosts.cmp production_ord.Laws.total-law (exact_order production_eq.ghosts.eq production_ord.ghosts.cmp production_exactly.Laws.exact-law production_ord.Laws.matches_eq-law)

-- the shifts of the state are in order over known terminals, and its reductions are on bits of
-- tokens, so that its list of conflicts is that of the definitions
pub record IsListable (terminals : List TerminalString) (state : State Bits) : Type 0 where
  pub ordered : IsOrdered terminal_order state.shifts
  pub known : (t : TerminalString) → Contains (keys state.shifts) t → Contains terminals t
  pub fits : (r : CodeReduction) → Contains state.reductions.items r → FitsTokens terminals r.0

-- ---- the reductions of items of the grammar are on bits of tokens
abbrev IsFinished : List (Dotted Bits) → Bits × Production → Type 0
IsFinished items r = (i : Dotted Bits) × Contains items i × (i.lookahead ≡ r.0)

finished_at : (i : Dotted Bits) (items : List (Dotted Bits)) (r : Bits × Production) (b : Bool) → Contains (cond b ((i.lookahead, i.production) ∷ reductions_of items) (reductions_of items)) r → (Contains (reductions_of items) r → IsFinished items r) → IsFinished (i ∷ items) r
finished_at i items r true c later = elim (contains-cons (i.lookahead, i.production) (reductions_of items) r c) [
  | inl e ↦ (i, contains_head i items, ap (λ (q : Bits × Production). q.0) e)
  | inr more ↦ let f = later more in (f.0, contains_tail i items f.0 f.1, f.2)
]
finished_at i items r false c later = let f = later c in (f.0, contains_tail i items f.0 f.1, f.2)

finished_in : (items : List (Dotted Bits)) (r : Bits × Production) → Contains (reductions_of items) r → IsFinished items r
finished_in [] r c = absurd (Contains-none r c)
finished_in (i ∷ items) r c = finished_at i items r (i.index == length i.production.symbols) c (finished_in items r)

pub reductions_fit : (g : Rules) (items : List (Dotted Bits)) (rs : List CodeReduction) → AreItems g items → map seen_reduction rs ≡ reductions_of items → (r : CodeReduction) → Contains rs r → FitsTokens g.terminals r.0
reductions_fit g items rs a e r c =
    let f = finished_in items (seen_reduction r) (subst (λ (xs : List (Bits × Production)). Contains xs (seen_reduction r)) e (contains_map seen_reduction rs r c)) in
    subst (FitsTokens g.terminals) f.2 (a.each f.0 f.1).tokens

-- ---- states shift only known terminals, if they shift the symbols after their dots
pub shifts_known : (g : Grammar) → IsWellFormed g → (state : State Bits) → IsOrdered terminal_order state.shifts → AreItems (rules_of g) state.items.vec.items → LeadsOverDots (contents_of (holds_token g.terminals) state) →
    (t : TerminalString) → Contains (keys state.shifts) t → Contains g.terminals t
shifts_known g well state ordered a edges t c =
    let b = (edges (Terminal t)).0 ((keys_shifted state.shifts ordered t).0 c) in
    let i = of_dotted state.items.vec.items (b.production, b.dot) b.item in
    let same : i.0.production ≡ b.production = ap (λ (d : Production × ℕ). d.0) i.2 in
    let among : Contains (productions g) b.production = subst (Contains (productions g)) same (a.each i.0 i.1).production in
    known_symbols g b.production well among b.dot t (split_drop b.dot b.production.symbols (Terminal t) b.after b.behind)

-- ---- the list of conflicts of each state
module _ (g : Grammar) (start : NonterminalString) (states : List (State Bits)) (tokens : ℕ → Production → ℕ → Token → Type 0) (differ : AllDiffer g.terminals)
    (canonical : AreCanonical (productions g) start (contents g.terminals states) tokens) (ascend : (n : ℕ) → ReducesInOrder production_ord.ghosts.cmp (contents g.terminals states n))
    (numbered : AreNumberedFrom 0 states) (listable : (n : ℕ) (state : State Bits) → slice_get states n ≡ Some state → IsListable g.terminals state) where
  abbrev all : List (Conflict Bits)
  all = flat_map (state_conflicts g.terminals) states

  listed : (n : ℕ) (o : Option (State Bits)) → slice_get states n ≡ o → AreConflictsOf terminal_order (contents_at (holds_token g.terminals) o) (conflicts_of g.terminals (conflicts_at g.terminals o))
  listed n None e = (empty_list terminal_order no_contents (λ i j r q l h k. cc)).1 nowhere_conflict
  listed n (Some state) e =
      let l = listable n state e in
      let once : HasNoRepeat (contents_of (holds_token g.terminals) state).reductions = subst (λ (o : Option (State Bits)). HasNoRepeat (contents_at (holds_token g.terminals) o).reductions) e (canonical.reductions n).once in
      conflicts_are_listed g.terminals differ state l.ordered l.known l.fits once

  each : (u : List Symbol) (n : ℕ) → state_after (contents g.terminals states) u ≡ Some n → AreCanonicalConflicts terminal_order production_ord.ghosts.cmp (productions g) start u (conflicts_of g.terminals (listed_of n all))
  each u n at =
      let zero_n : n ≡ 0 + n = omega arith in
      let here : listed_of n all ≡ conflicts_at g.terminals (slice_get states n) = Listed-at g.terminals 0 states n n numbered zero_n in
      subst (λ (cs : List (Conflict Bits)). AreCanonicalConflicts terminal_order production_ord.ghosts.cmp (productions g) start u (conflicts_of g.terminals cs)) (sym here)
      ((canonical_conflicts terminal_order production_ord.ghosts.cmp productions_ordered (productions g) start (contents g.terminals states) tokens canonical u n at (ascend n) (conflicts_of g.terminals (conflicts_at g.terminals (slice_get states n)))).0 (listed n (slice_get states n) refl))

  within : (c : Conflict Bits) → Contains all c → c.state.0 < length states
  within c i =
      let r = Listed-from g.terminals 0 states numbered c i in
      let place : r.0 ≡ c.state.0 = let e = r.3 in omega arith in
      slice_get_within states c.state.0 r.1 (subst (λ (n : ℕ). slice_get states n ≡ Some r.1) place r.2)

  lead : (c : Conflict Bits) (t : TerminalString) (target : StateIndex) → Contains all c → c.action ≡ Shift t target → (contents g.terminals states c.state.0).shift t ≡ Some target.0
  lead c t target i a =
      let r = Listed-from g.terminals 0 states numbered c i in
      let entry = contains_place r.1.shifts.entries (t, target) (r.4.shift t target a) in
      let found = btree_map_get_place terminal_total r.1.shifts entry.0 t target (listable r.0 r.1 r.2).ordered entry.1 in
      let place : r.0 ≡ c.state.0 = let e = r.3 in omega arith in
      let there : slice_get states c.state.0 ≡ Some r.1 = subst (λ (n : ℕ). slice_get states n ≡ Some r.1) place r.2 in
      ap (λ (o : Option (State Bits)). (contents_at (holds_token g.terminals) o).shift t) there ∙ ap (option_map number_of) found

  pub conflicts_are_canonical : (conflicts : List (Conflict Bits)) → conflicts ≡ all → AreCanonicalConflictsOf g start states conflicts
  conflicts_are_canonical conflicts e = subst (AreCanonicalConflictsOf g start states) (sym e) (record { each = each; only = within; ascend = Listed-ascend g.terminals 0 states numbered; lead = lead })

-- ---- the list of conflicts of the states of the construction
pub canonical_failure : (g : Grammar) (start : NonterminalString) (states : List (State Bits)) (conflicts : List (Conflict Bits)) (tokens : ℕ → Production → ℕ → Token → Type 0) → IsWellFormed g → AllDiffer g.terminals →
    AreStatesOf (canonical_of g start) states → ((n : ℕ) (state : State Bits) → slice_get states n ≡ Some state → IsOrdered terminal_order state.shifts) →
    AreCanonical (productions g) start (contents g.terminals states) tokens → ((n : ℕ) → ReducesInOrder production_ord.ghosts.cmp (contents g.terminals states n)) →
    AreAllConflicts g.terminals states conflicts → AreConflictsOfFailure g start states conflicts
canonical_failure g start states conflicts tokens well differ of ordered canonical ascend listed = record {
  canonical = conflicts_are_canonical g start states tokens differ canonical ascend (λ n s at. let e = (of.coherent n s at).numbered in omega arith) listable conflicts listed.all;
  some = listed.some;
}
  where
    listable : (n : ℕ) (state : State Bits) → slice_get states n ≡ Some state → IsListable g.terminals state
    listable n state at =
        let b = (of.built.each n state at).built in
        let items = b.closure.are_items in
        let edges : LeadsOverDots (contents_of (holds_token g.terminals) state) = subst (λ (o : Option (State Bits)). LeadsOverDots (contents_at (holds_token g.terminals) o)) at (canonical.closed.edges n) in
        record {
          ordered = ordered n state at;
          known = shifts_known g well state (ordered n state at) items edges;
          fits = reductions_fit (rules_of g) state.items.vec.items state.reductions.items items b.finished;
        }
