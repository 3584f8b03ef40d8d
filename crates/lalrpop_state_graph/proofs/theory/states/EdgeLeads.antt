-- The edges of states agree with their shifts and gotos.
use Rattle.std.proofs.Common.{◌≡◌, ℕ, zero, suc, ◌+◌, ◌<◌, inl, inr, List, [], ◌∷◌, length, refl, sym, ◌∙◌, ap, subst, arith, true, Option, Some, None}
use Rattle.std.specs.Prelude.{Contains, slice_get, option_map}
use Rattle.std.specs.BTreeMap.{BTreeMap, get, IsOrdered}
use Rattle.std.specs.Cmp.{IsTotalOrder}
use Rattle.std.specs.declared.cmp.Ordering.{Ordering}
use Rattle.std.proofs.lemmas.List.Elements.{Contains-append_left, Contains-append_right, Contains-append_cases}
use Rattle.std.proofs.lemmas.Map.Entries.{btree_map_get_place}
use Rattle.std.proofs.lemmas.Option.{slice_get_within}
use Rattle.lalrpop_base.specs.Words.{number_of, contents_at, leads, name_cmp, HasTransition}
use Rattle.lalrpop_grammar.specs.contracts.repr.TerminalStringOrd.TheImpl as terminal_ord
use Rattle.lalrpop_grammar.specs.contracts.repr.NonterminalStringOrd.TheImpl as name_ord
use Rattle.lalrpop_state_graph.proofs.Types.{NonterminalString, State, StateIndex, Symbol, TerminalString, Token}
use Rattle.lalrpop_grammar.specs.declared.repr.Symbol.TheVariants.{Nonterminal, Terminal}
use Rattle.lalrpop_collections.proofs.theory.lists.Lists.{contains_of_map}
use Rattle.lalrpop_construction.specs.Words.{places_in}
use Rattle.lalrpop_state_graph.specs.Words.{Edge, edge, edges, edges_of, edges_from, shift_edges, goto_edges}
use Rattle.lalrpop_construction.proofs.theory.construction.StateEdges.{leads_transition}
use Rattle.lalrpop_collections.proofs.theory.lists.Members.{Contains-none, contains_map, place}

-- an ordered map has the target of an entry at its key
entry_leads : {K : Type 0} {R : K → K → Ordering} → IsTotalOrder R → (m : BTreeMap K StateIndex) (key : K) (target : StateIndex) → IsOrdered R m → Contains m.entries (key, target) → option_map number_of (get R m key) ≡ Some target.0
entry_leads total m key target ordered c =
    let at = place m.entries (key, target) c in
    ap (option_map number_of) (btree_map_get_place total m at.0 key target ordered at.2)

module _ {L : Type 0} where
  -- ---- the transition of an edge
  pub of_state : (n : StateIndex) (s : State L) (e : Edge) → Contains (edges_of n s) e → (e.source ≡ n) × HasTransition e.symbol e.target s
  of_state n s e c = elim (Contains-append_cases (shift_edges n s.shifts.entries) (goto_edges n s.gotos.entries) e c) [
    | inl h ↦
        let f = contains_of_map (λ (t : TerminalString × StateIndex). edge n (Terminal t.0) t.1) s.shifts.entries e h in
        subst (λ (d : Edge). (d.source ≡ n) × HasTransition d.symbol d.target s) f.2 (refl, f.1)
    | inr h ↦
        let f = contains_of_map (λ (a : NonterminalString × StateIndex). edge n (Nonterminal a.0) a.1) s.gotos.entries e h in
        subst (λ (d : Edge). (d.source ≡ n) × HasTransition d.symbol d.target s) f.2 (refl, f.1)
  ]

  -- the edge has a source among the states
  pub record HasSource (k : ℕ) (states : List (State L)) (e : Edge) : Type 0 where
    pub number : ℕ
    pub state : State L
    pub there : slice_get states number ≡ Some state
    pub source : (e.source).0 ≡ k + number
    pub transition : HasTransition e.symbol e.target state

  pub source_from : (k : ℕ) (states : List (State L)) (e : Edge) → Contains (edges_from k states) e → HasSource k states e
  source_from k [] e c = absurd (Contains-none e c)
  source_from k (s ∷ ss) e c = elim (Contains-append_cases (edges_of (record { 0 = k }) s) (edges_from (suc k) ss) e c) [
    | inl h ↦
        let t = of_state (record { 0 = k }) s e h in
        let number : k ≡ k + 0 = omega arith in
        record { number = 0; state = s; there = refl; source = ap (λ (n : StateIndex). n.0) t.0 ∙ number; transition = t.1 }
    | inr h ↦
        let r = source_from (suc k) ss e h in
        let number : suc k + r.number ≡ k + suc r.number = omega arith in
        record { number = suc r.number; state = r.state; there = r.there; source = r.source ∙ number; transition = r.transition }
  ]

  pub source_of_edge : (states : List (State L)) (r s : StateIndex) (x : Symbol) → Contains (edges states) (edge r x s) → (state : State L) × (slice_get states r.0 ≡ Some state) × HasTransition x s state
  source_of_edge states r s x c =
      let h = source_from 0 states (edge r x s) c in
      let source = h.source in
      let same : h.number ≡ r.0 = omega arith in
      (h.state, subst (λ (n : ℕ). slice_get states n ≡ Some h.state) same h.there, h.transition)

  -- ---- the edge of a transition
  state_edge : (n : StateIndex) (s : State L) (x : Symbol) (target : StateIndex) → HasTransition x target s → Contains (edges_of n s) (edge n x target)
  state_edge n s (Terminal t) target h = Contains-append_left (shift_edges n s.shifts.entries) (goto_edges n s.gotos.entries) (edge n (Terminal t) target) (contains_map (λ (t : TerminalString × StateIndex). edge n (Terminal t.0) t.1) s.shifts.entries (t, target) h)
  state_edge n s (Nonterminal a) target h = Contains-append_right (shift_edges n s.shifts.entries) (goto_edges n s.gotos.entries) (edge n (Nonterminal a) target) (contains_map (λ (a : NonterminalString × StateIndex). edge n (Nonterminal a.0) a.1) s.gotos.entries (a, target) h)

  edge_from : (k n : ℕ) (states : List (State L)) (s : State L) (x : Symbol) (target : StateIndex) → slice_get states n ≡ Some s → HasTransition x target s → Contains (edges_from k states) (edge (record { 0 = k + n }) x target)
  edge_from k n [] s x target at h = cc
  edge_from k zero (q ∷ ss) s x target at h =
      let number : k ≡ k + 0 = omega arith in
      let same : Some s ≡ Some q = sym at in
      let there : HasTransition x target q = first same in
      subst (λ (m : ℕ). Contains (edges_from k (q ∷ ss)) (edge (record { 0 = m }) x target)) number (Contains-append_left (edges_of (record { 0 = k }) q) (edges_from (suc k) ss) (edge (record { 0 = k }) x target) (state_edge (record { 0 = k }) q x target there))
    where
      first : Some s ≡ Some q → HasTransition x target q
      first e = let is : s ≡ q = cc in subst (λ (z : State L). HasTransition x target z) is h
  edge_from k (suc n) (q ∷ ss) s x target at h =
      let number : suc k + n ≡ k + suc n = omega arith in
      subst (λ (m : ℕ). Contains (edges_from k (q ∷ ss)) (edge (record { 0 = m }) x target)) number (Contains-append_right (edges_of (record { 0 = k }) q) (edges_from (suc k) ss) (edge (record { 0 = suc k + n }) x target) (edge_from (suc k) n ss s x target at h))

  -- ---- the targets of symbols
  state_leads : (o : Option (State L)) (s : State L) (x : Symbol) (target : StateIndex) → o ≡ Some s → IsOrdered terminal_ord.ghosts.cmp s.shifts → IsOrdered name_cmp s.gotos → HasTransition x target s → leads (contents_at (λ (lookahead : L) (t : Token). true) o) x ≡ Some target.0
  state_leads o s (Terminal t) target at shifts gotos h = ap (λ (p : Option (State L)). leads (contents_at (λ (lookahead : L) (t : Token). true) p) (Terminal t)) at ∙ entry_leads terminal_ord.Laws.total-law s.shifts t target shifts h
  state_leads o s (Nonterminal a) target at shifts gotos h = ap (λ (p : Option (State L)). leads (contents_at (λ (lookahead : L) (t : Token). true) p) (Nonterminal a)) at ∙ entry_leads name_ord.Laws.total-law s.gotos a target gotos h

  -- the symbol of an edge leads to its target, if the transitions of the source ascend
  pub edge_leads : (states : List (State L)) (r s : StateIndex) (x : Symbol) (state : State L) → slice_get states r.0 ≡ Some state → IsOrdered terminal_ord.ghosts.cmp state.shifts → IsOrdered name_cmp state.gotos → Contains (edges states) (edge r x s) → leads (places_in states r.0) x ≡ Some s.0
  edge_leads states r s x state at shifts gotos c =
      let h = source_of_edge states r s x c in
      let same : Some h.0 ≡ Some state = sym h.1 ∙ at in
      state_leads (slice_get states r.0) state x s at shifts gotos (there h.0 h.2 same)
    where
      there : (q : State L) → HasTransition x s q → Some q ≡ Some state → HasTransition x s state
      there q t e = let is : q ≡ state = cc in subst (λ (z : State L). HasTransition x s z) is t

  lead_transition : (o : Option (State L)) (x : Symbol) (s : ℕ) → leads (contents_at (λ (lookahead : L) (t : Token). true) o) x ≡ Some s → (state : State L) × (o ≡ Some state) × HasTransition x (record { 0 = s }) state
  lead_transition None (Terminal t) s e = cc
  lead_transition None (Nonterminal a) s e = cc
  lead_transition (Some state) x s e =
      let t = leads_transition (λ (lookahead : L) (t : Token). true) state x s e in
      let make : ℕ → StateIndex = λ n. record { 0 = n } in
      (state, refl, subst (λ (q : StateIndex). HasTransition x q state) (ap make t.1) t.2)

  -- a symbol that leads from a state to another is an edge
  pub leads_edge : (states : List (State L)) (r s : ℕ) (x : Symbol) → leads (places_in states r) x ≡ Some s → Contains (edges states) (edge (record { 0 = r }) x (record { 0 = s }))
  leads_edge states r s x e =
      let t = lead_transition (slice_get states r) x s e in
      let number : 0 + r ≡ r = omega arith in
      subst (λ (m : ℕ). Contains (edges states) (edge (record { 0 = m }) x (record { 0 = s }))) number (edge_from 0 r states t.0 x (record { 0 = s }) t.1 t.2)

  pub leads_within : (states : List (State L)) (r s : ℕ) (x : Symbol) → leads (places_in states r) x ≡ Some s → r < length states
  leads_within states r s x e = let t = lead_transition (slice_get states r) x s e in slice_get_within states r t.0 t.1
