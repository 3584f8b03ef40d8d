-- Steps back over the edges of one symbol, and the contribution of a place whose dot is past the
-- start.
use Rattle.std.proofs.Common.{◌≡◌, ℕ, suc, ◌-◌, ◌<◌, ◌⊎◌, inl, inr, ◌↔◌, List, [], ◌∷◌, ◌++◌, reverse, drop, refl, sym, ◌∙◌, ap, subst, arith, Some, append_assoc, append-nil}
use Rattle.std.specs.Prelude.{Contains, slice_get}
use Rattle.std.proofs.lemmas.List.Elements.{Contains-append_right, Contains-push_cases}
use Rattle.lalrpop_base.specs.Words.{IsNullable, LeadsBack, to_parent, behind_parent, of_start, Contents, leads, rules_of, at_place, Visits}
use Rattle.lalrpop_grammar.specs.lanes.Lanes.{over_edge, Gives}
use Rattle.lalrpop_lanes.proofs.Types.{NonterminalString, Production, StateIndex, Symbol, Token}
use Rattle.lalrpop_grammar.specs.declared.repr.Symbol.TheVariants.{Nonterminal}
use Rattle.lalrpop_lanes.specs.Words.{IsAutomaton, Gains, GainsSome, Nowhere, Nothing, IsPair, Some_of, GivesCell, GivesBit, GivesSuccessor}
use Rattle.lalrpop_lanes.specs.Words.{GainsOf, GainsSomeOf, VisitsOf, AreInRange}
use Rattle.lalrpop_construction.specs.Words.{places_in}
use Rattle.lalrpop_state_graph.specs.Words.{edge, edges, sources_over}
use Rattle.lalrpop_lanes.specs.lanes.LaneSteps.{LeadsBackTo}
use Rattle.lalrpop_lanes.specs.declared.lane_table.lane.automaton.Automaton.{Automaton}
use Rattle.lalrpop_collections.specs.declared.collections.walk.Walk.{Walk}
use Rattle.lalrpop_lanes.specs.declared.lane_table.table.LaneTable.{LaneTable}
use Rattle.lalrpop_states.specs.declared.lr1_core.place.Place.{Place}
use Rattle.lr1_theory.proofs.theory.check.CheckSending.{same_place}
use Rattle.lalrpop_states.proofs.theory.closures.Closing.{drop_split, split_drop}
use Rattle.lalrpop_state_graph.proofs.theory.states.EdgeLeads.{leads_edge}
use Rattle.lalrpop_lanes.proofs.theory.lanes.Gains.{Gains-none, Gains-then, Gains-same}
use Rattle.lalrpop_lanes.proofs.theory.lanes.GainsSome.{GainsSome-last}
use Rattle.lalrpop_collections.proofs.theory.lists.Members.{Contains-none, contains_head, Contains-reverse, Contains-from_reverse}
use Rattle.lalrpop_collections.proofs.theory.lists.Places.{same_some}
use Rattle.lalrpop_lanes.proofs.theory.lanes.SomeOf.{some_none, some_kept, some_last, some_cases}
use Rattle.lalrpop_state_graph.proofs.theory.graphs.Stepping.{source_edge, edge_source}
use Rattle.lalrpop_collections.proofs.theory.collections.Walks.{Visits-none, Visits-then, Visits-same}

-- ---- the ways in which a place leads back
module _ (g : List Production) (states : ℕ → Contents) where
  -- a place leads back over an edge
  pub record IsOverEdge (s : ℕ) (p : Production) (i r : ℕ) (q : Production) (e : ℕ) : Type 0 where
    pub same : q ≡ p
    pub moved : i ≡ suc e
    pub symbol : Symbol
    pub after : List Symbol
    pub edge : leads (states r) symbol ≡ Some s
    pub behind : drop e p.symbols ≡ symbol ∷ after

  -- a place leads back to an item with its nonterminal after the dot
  pub record IsToParent (s : ℕ) (p : Production) (i r : ℕ) (q : Production) (e : ℕ) : Type 0 where
    pub begun : i ≡ 0
    pub here : r ≡ s
    pub after : List Symbol
    pub item : Contains (states s).items (q, e)
    pub behind : drop e q.symbols ≡ Nonterminal p.nonterminal ∷ after
    pub nullable : IsNullable g after

  pub back_cases : {s : ℕ} {p : Production} {i r : ℕ} {q : Production} {e : ℕ} → LeadsBack g states s p i r q e → IsOverEdge s p i r q e ⊎ IsToParent s p i r q e
  back_cases (over_edge r s p dot x after l b) = inl (record { same = refl; moved = refl; symbol = x; after = after; edge = l; behind = b })
  back_cases (to_parent s p q dot after c b n) = inr (record { begun = refl; here = refl; after = after; item = c; behind = b; nullable = n })

  pub gives_begun : {start : NonterminalString} {s : ℕ} {p : Production} {i : ℕ} {t : Token} → Gives g start states s p i t → i ≡ 0
  gives_begun (behind_parent s p q dot after t c b f) = refl
  gives_begun (of_start s p e) = refl

-- ---- the sources in turn
module _ {L : Type 0} (automaton : Automaton L) (place : Place) (x : Symbol) where
  abbrev pub S : ℕ → Contents
  S = places_in automaton.states.now

  abbrev IsBefore : Place → StateIndex → Type 0
  IsBefore k q = at_place q.0 place.item.production (place.item.index - 1) ≡ k

  abbrev IsStep : ℕ → ℕ → StateIndex → Type 0
  IsStep l r q = IsPair q.0 place.state l r

  -- the sources so far gave their successors and places
  pub record IsUnshifting (left all : List StateIndex) (old new : LaneTable) (start now : Walk Place) : Type 0 where
    pub done : List StateIndex
    pub whole : done ++ left ≡ all
    pub leading : (r : StateIndex) → Contains done r → leads (S r.0) x ≡ Some place.state
    pub gains : (k : ℕ) → Gains k Nowhere Nothing (λ l r. Some_of (IsStep l r) done) old new
    pub visits : Visits (λ k. Some_of (IsBefore k) done) start now
    pub columns : new.conflicts ≡ old.conflicts
    pub in_range : AreInRange old → AreInRange new

  pub Unshifting-start : (all : List StateIndex) (table : LaneTable) (walk : Walk Place) → IsUnshifting all all table table walk walk
  Unshifting-start all table walk = record {
    done = [];
    whole = refl;
    leading = λ r c. absurd (Contains-none r c);
    gains = λ k. Gains-none k Nowhere Nothing (λ l r. Some_of (IsStep l r) []) table (λ row h. h) (λ row bit h. h) (λ l r h. some_none (IsStep l r) h);
    visits = Visits-none (λ k. Some_of (IsBefore k) []) walk (λ k h. some_none (IsBefore k) h);
    columns = refl;
    in_range = λ h. h;
  }

  pub Unshifting-more : (before left all : List StateIndex) (q : StateIndex) (a b c : LaneTable) (t u v : Walk Place) → before ≡ q ∷ left → leads (S q.0) x ≡ Some place.state → ((k : ℕ) → Gains k Nowhere Nothing (IsPair q.0 place.state) b c) → Visits (λ k. IsBefore k q) u v →
      c.conflicts ≡ b.conflicts → (AreInRange b → AreInRange c) → IsUnshifting before all a b t u → IsUnshifting left all a c t v
  Unshifting-more before left all q a b c t u v first edge gains visits columns in_range h = record {
    done = h.done ++ q ∷ [];
    whole = append_assoc h.done (q ∷ []) left ∙ ap (λ (xs : List StateIndex). h.done ++ xs) (sym first) ∙ h.whole;
    leading = λ r d. elim (Contains-push_cases h.done q r d) [
      | inl o ↦ h.leading r o
      | inr e ↦ subst (λ (y : StateIndex). leads (S y.0) x ≡ Some place.state) e edge
    ];
    gains = λ k. Gains-then k Nowhere Nowhere Nowhere Nothing Nothing Nothing (λ l r. Some_of (IsStep l r) h.done) (IsPair q.0 place.state) (λ l r. Some_of (IsStep l r) (h.done ++ q ∷ []))
        (λ row n. n) (λ row n. n) (λ row n. inl n) (λ row bit n. n) (λ row bit n. n) (λ row bit n. inl n)
        (λ l r. some_kept (IsStep l r) h.done q) (λ l r. some_last (IsStep l r) h.done q) (λ l r. some_cases (IsStep l r) h.done q) a b c (h.gains k) (gains k);
    visits = Visits-then (λ k. Some_of (IsBefore k) h.done) (λ k. IsBefore k q) (λ k. Some_of (IsBefore k) (h.done ++ q ∷ [])) (λ k. some_kept (IsBefore k) h.done q) (λ k. some_last (IsBefore k) h.done q) (λ k. some_cases (IsBefore k) h.done q) t u v h.visits visits;
    columns = columns ∙ h.columns;
    in_range = λ r. in_range (h.in_range r);
  }

  -- a source that is left has an edge over the symbol to the place
  pub left_edge : (before left all : List StateIndex) (q : StateIndex) (a b : LaneTable) (t u : Walk Place) → IsAutomaton automaton → all ≡ reverse (sources_over automaton.state_graph.now x (record { 0 = place.state })) → before ≡ q ∷ left → IsUnshifting before all a b t u → Contains (edges automaton.states.now) (edge q x (record { 0 = place.state }))
  left_edge before left all q a b t u on is first h =
      let there : Contains all q = subst (λ (xs : List StateIndex). Contains xs q) h.whole (Contains-append_right h.done before q (subst (λ (xs : List StateIndex). Contains xs q) (sym first) (contains_head q left))) in
      let sources = sources_over automaton.state_graph.now x (record { 0 = place.state }) in
      source_edge automaton.state_graph.now (edges automaton.states.now) x (record { 0 = place.state }) q on.graph (Contains-from_reverse sources q (subst (λ (xs : List StateIndex). Contains xs q) is there))

  -- ---- all sources
  module _ (on : IsAutomaton automaton) (moved : 0 < place.item.index) (at : slice_get place.item.production.symbols (place.item.index - 1) ≡ Some x) where
    abbrev dot : ℕ
    dot = place.item.index - 1

    next : place.item.index ≡ suc dot
    next = omega (arith, moved)

    behind : drop dot place.item.production.symbols ≡ x ∷ drop (suc dot) place.item.production.symbols
    behind = drop_split dot place.item.production.symbols x at

    step_gives : (q : StateIndex) → leads (S q.0) x ≡ Some place.state → (l r : ℕ) → IsStep l r q → GivesSuccessor (rules_of automaton.grammar.now) automaton.start.now S place l r
    step_gives q edge l r pair = record {
      here = pair.right;
      index = dot;
      moved = next;
      symbol = x;
      after = drop (suc dot) place.item.production.symbols;
      edge = subst (λ (n : ℕ). leads (S l) x ≡ Some n) pair.right (subst (λ (n : ℕ). leads (S n) x ≡ Some place.state) pair.left edge);
      behind = behind;
    }

    -- the sources so far were gained; if the step of the next one fails, a part of it was gained
    pub Unshifting-part : (before all : List StateIndex) (q : StateIndex) (a b c : LaneTable) (t u : Walk Place) → leads (S q.0) x ≡ Some place.state → ((k : ℕ) → GainsSome k Nowhere Nothing (IsPair q.0 place.state) b c) → IsUnshifting before all a b t u → (k : ℕ) → GainsSomeOf automaton place k a c
    Unshifting-part before all q a b c t u edge part h k = GainsSome-last k Nowhere Nowhere (GivesCell (rules_of automaton.grammar.now) automaton.start.now S place) Nothing Nothing (GivesBit (rules_of automaton.grammar.now) automaton.start.now S place) (λ l r. Some_of (IsStep l r) h.done) (IsPair q.0 place.state) (GivesSuccessor (rules_of automaton.grammar.now) automaton.start.now S place)
        (λ row n. absurd n) (λ row n. absurd n) (λ row bit n. absurd n) (λ row bit n. absurd n) (λ l r m. step_gives m.0 (h.leading m.0 m.1) l r m.2) (step_gives q edge) a b c (h.gains k) (part k)

    module _ (left all : List StateIndex) (old new : LaneTable) (start now : Walk Place) (none : left ≡ []) (is : all ≡ reverse (sources_over automaton.state_graph.now x (record { 0 = place.state }))) (h : IsUnshifting left all old new start now) where
      -- each state from which the symbol leads to the place is done
      reached : (l : ℕ) (e : ℕ) (y : Symbol) (after : List Symbol) → place.item.index ≡ suc e → leads (S l) y ≡ Some place.state → drop e place.item.production.symbols ≡ y ∷ after → Contains h.done (record { 0 = l })
      reached l e y after i edge b =
          let same : e ≡ dot = omega (arith, i, next) in
          let there : Some y ≡ Some x = sym (split_drop dot place.item.production.symbols y after (ap (λ (n : ℕ). drop n place.item.production.symbols) (sym same) ∙ b)) ∙ at in
          let is_x : y ≡ x = same_some y x there in
          let found = leads_edge automaton.states.now l place.state x (subst (λ (z : Symbol). leads (S l) z ≡ Some place.state) is_x edge) in
          let source = edge_source automaton.state_graph.now (edges automaton.states.now) x (record { 0 = place.state }) (record { 0 = l }) on.graph found in
          let sources = sources_over automaton.state_graph.now x (record { 0 = place.state }) in
          let listed : Contains all (record { 0 = l }) = subst (λ (xs : List StateIndex). Contains xs (record { 0 = l })) (sym is) (Contains-reverse sources (record { 0 = l }) source) in
          subst (λ (xs : List StateIndex). Contains xs (record { 0 = l })) (sym h.whole ∙ ap (λ (xs : List StateIndex). h.done ++ xs) none ∙ append-nil h.done) listed

      stepped : (l r : ℕ) → Some_of (IsStep l r) h.done ↔ GivesSuccessor (rules_of automaton.grammar.now) automaton.start.now S place l r
      stepped l r = (
        λ m. step_gives m.0 (h.leading m.0 m.1) l r m.2,
        λ s. (record { 0 = l }, reached l s.index s.symbol s.after s.moved (subst (λ (n : ℕ). leads (S l) s.symbol ≡ Some n) (sym s.here) s.edge) s.behind, record { left = refl; right = s.here }),
      )

      pub Unshifting-gains : (k : ℕ) → GainsOf automaton place k old new
      Unshifting-gains k = Gains-same k Nowhere (GivesCell (rules_of automaton.grammar.now) automaton.start.now S place) Nothing (GivesBit (rules_of automaton.grammar.now) automaton.start.now S place) (λ l r. Some_of (IsStep l r) h.done) (GivesSuccessor (rules_of automaton.grammar.now) automaton.start.now S place)
          (λ row. (λ n. absurd n, λ c. absurd (omega (arith, moved, c.begun)))) (λ row bit. (λ n. absurd n, λ b. let z = gives_begun (rules_of automaton.grammar.now).productions S b.gives in absurd (omega (arith, moved, z)))) stepped old new (h.gains k)

      led : (k : Place) → Some_of (IsBefore k) h.done → LeadsBackTo (rules_of automaton.grammar.now) automaton.start.now S place k
      led k m = subst (λ (z : Place). LeadsBackTo (rules_of automaton.grammar.now) automaton.start.now S place z) m.2 (subst (λ (i : ℕ). LeadsBack (rules_of automaton.grammar.now).productions S place.state place.item.production i (m.0).0 place.item.production dot) (sym next) (over_edge (m.0).0 place.state place.item.production dot x (drop (suc dot) place.item.production.symbols) (h.leading m.0 m.1) behind))

      back : (k : Place) → LeadsBackTo (rules_of automaton.grammar.now) automaton.start.now S place k → Some_of (IsBefore k) h.done
      back k b = elim (back_cases (rules_of automaton.grammar.now).productions S b) [
        | inl o ↦
            let same : dot ≡ k.item.index = let i = o.moved in omega (arith, i, next) in
            (record { 0 = k.state }, reached k.state k.item.index o.symbol o.after o.moved o.edge o.behind, same_place (at_place k.state place.item.production dot) k refl (sym o.same) same)
        | inr p ↦ absurd (let z = p.begun in omega (arith, moved, z))
      ]

      pub Unshifting-visits : VisitsOf automaton place start now
      Unshifting-visits = Visits-same (λ k. Some_of (IsBefore k) h.done) (LeadsBackTo (rules_of automaton.grammar.now) automaton.start.now S place) led back start now h.visits
