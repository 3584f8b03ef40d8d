-- The update of a graph after states were copied.
use Rattle.std.proofs.Common.{◌≡◌, ℕ, suc, ◌+◌, ◌<◌, ◌≤◌, inl, inr, true, false, List, [], ◌∷◌, ◌++◌, map, filter, take, drop, length, get_or, refl, sym, ◌∙◌, ap, subst, arith, cond, append_assoc, append-nil}
use Rattle.std.specs.Prelude.{◌==◌, Contains, slice_get, Some, unwrap_or}
use Rattle.std.specs.Map.{keys_of}
use Rattle.std.specs.declared.alloc.Global.{Global}
use Rattle.std.specs.declared.vec.Vec.{Vec}
use Rattle.std.proofs.lemmas.Bool.{cases_Bool, cases_lt, eq-eqb, eqb-true, eqb-false, ne_eqb}
use Rattle.std.proofs.lemmas.List.{map-append, drop_all, length-take-le}
use Rattle.std.proofs.lemmas.List.Elements.{Contains-append_cases}
use Rattle.std.proofs.lemmas.Option.{slice_get_within}
use Rattle.lalrpop_base.specs.Words.{AllDiffer, Bits, number_in, retargeted, retargeted_all, HasTransition}
use Rattle.lalrpop_state_graph.proofs.Types.{NonterminalString, State, StateIndex, Symbol, TerminalString}
use Rattle.lalrpop_grammar.specs.declared.repr.Symbol.TheVariants.{Nonterminal, Terminal}
use Rattle.lalrpop_collections.proofs.theory.lists.Lists.{contains_of_map}
use Rattle.lalrpop_state_graph.specs.Words.{AreCopies, Edge, edge, edges, edges_from, edges_of, goto_edges, index, IsGraphOf, origin_of, origins}
use Rattle.lalrpop_state_graph.specs.Words.{origins_of, shift_edges, targets_from, targets_of}
use Rattle.lalrpop_state_graph.specs.graphs.GraphCopies.{Origin, retraced, without, origins_moved, followed_all, FollowsInTurn, StandAmong, FollowsEdges}
use Rattle.lalrpop_state_graph.specs.graphs.StateGraph.{edge_target, nothing, IsChangedAt, IsListedAt}
use Rattle.lalrpop_state_graph.specs.declared.state_graph.StateGraph.{StateGraph}
use Rattle.lalrpop_states.proofs.theory.closures.Closing.{drop_split}
use Rattle.lalrpop_state_graph.proofs.theory.states.EdgeLeads.{of_state, source_from}
use Rattle.lalrpop_collections.proofs.theory.lists.Members.{contains_head, contains_tail, contains_map, place}
use Rattle.lalrpop_collections.proofs.theory.lists.Places.{same_some, slice_get_at, filled, slice_get-drop}
use Rattle.lalrpop_state_graph.proofs.theory.graphs.StateGraphs.{edges_more, map_cond, targets_append}
use Rattle.lalrpop_state_graph.proofs.theory.graphs.MovedOrigins.{HaveApartSymbols, all_followed, followed_append}

-- the number at an index of the list
pub number_at : (xs : List ℕ) (n o : ℕ) → slice_get xs n ≡ Some o → number_in xs n ≡ o
number_at xs n o at = ap (λ x. unwrap_or x n) at

module _ (originals : List ℕ) where
  -- ---- the edges of a state
  retraced_shifts : (n : StateIndex) (es : List (TerminalString × StateIndex)) → map (retraced originals) (shift_edges n es) ≡ shift_edges n (retargeted_all (number_in originals) es)
  retraced_shifts n [] = refl
  retraced_shifts n (e ∷ es) = ap (λ fs. edge n (Terminal e.0) (retargeted (number_in originals) e.1) ∷ fs) (retraced_shifts n es)

  retraced_gotos : (n : StateIndex) (es : List (NonterminalString × StateIndex)) → map (retraced originals) (goto_edges n es) ≡ goto_edges n (retargeted_all (number_in originals) es)
  retraced_gotos n [] = refl
  retraced_gotos n (e ∷ es) = ap (λ fs. edge n (Nonterminal e.0) (retargeted (number_in originals) e.1) ∷ fs) (retraced_gotos n es)

  retraced_of : {L : Type 0} (n : StateIndex) (before state : State L) → retargeted_all (number_in originals) state.shifts.entries ≡ before.shifts.entries → retargeted_all (number_in originals) state.gotos.entries ≡ before.gotos.entries → map (retraced originals) (edges_of n state) ≡ edges_of n before
  retraced_of n before state shifts gotos =
      map-append (retraced originals) (shift_edges n state.shifts.entries) (goto_edges n state.gotos.entries)
      ∙ ap (λ fs. fs ++ map (retraced originals) (goto_edges n state.gotos.entries)) (retraced_shifts n state.shifts.entries ∙ ap (shift_edges n) shifts)
      ∙ ap (λ fs. shift_edges n before.shifts.entries ++ fs) (retraced_gotos n state.gotos.entries ∙ ap (goto_edges n) gotos)

  keys_apart : {K : Type 0} (f : K → Symbol) → ((a b : K) → f a ≡ f b → a ≡ b) → (n : StateIndex) (es : List (K × StateIndex)) → AllDiffer (keys_of es) → HaveApartSymbols (map (λ (p : K × StateIndex). edge n (f p.0) p.1) es)
  keys_apart f one n [] differ = tt
  keys_apart {K} f one n (e ∷ es) differ = (
    λ g c is.
        let h = contains_of_map (λ (p : K × StateIndex). edge n (f p.0) p.1) es g c in
        let at = place (keys_of es) (h.0).0 (contains_map (λ (p : K × StateIndex). p.0) es h.0 h.1) in
        differ 0 (suc at.0) e.0 (omega arith) refl (at.2 ∙ ap Some (one (h.0).0 e.0 (ap (λ (d : Edge). d.symbol) h.2 ∙ is))),
    keys_apart f one n es (λ i j x l a b. differ (suc i) (suc j) x (omega arith) a b),
  )

  apart_append : (es fs : List Edge) → HaveApartSymbols es → HaveApartSymbols fs → ((e f : Edge) → Contains es e → Contains fs f → f.symbol ≡ e.symbol → ⊥) → HaveApartSymbols (es ++ fs)
  apart_append [] fs a b across = b
  apart_append (e ∷ es) fs a b across = (
    λ g d is. elim (Contains-append_cases es fs g d) [ inl h ↦ a.0 g h is | inr h ↦ across e g (contains_head e es) h is ],
    apart_append es fs a.1 b (λ g f d. across g f (contains_tail e es g d)),
  )

  state_apart : {L : Type 0} (n : StateIndex) (state : State L) → AllDiffer (keys_of state.shifts.entries) → AllDiffer (keys_of state.gotos.entries) → HaveApartSymbols (edges_of n state)
  state_apart n state shifts gotos =
      apart_append (shift_edges n state.shifts.entries) (goto_edges n state.gotos.entries) (keys_apart Terminal (λ a b e. cc) n state.shifts.entries shifts) (keys_apart Nonterminal (λ a b e. cc) n state.gotos.entries gotos)
      (λ e f c d is.
      let h = contains_of_map (λ (p : TerminalString × StateIndex). edge n (Terminal p.0) p.1) state.shifts.entries e c in
      let k = contains_of_map (λ (p : NonterminalString × StateIndex). edge n (Nonterminal p.0) p.1) state.gotos.entries f d in
      let clash : Nonterminal (k.0).0 ≡ Terminal (h.0).0 = ap (λ (d : Edge). d.symbol) k.2 ∙ is ∙ sym (ap (λ (d : Edge). d.symbol) h.2) in
      cc)

  -- a state has no targets if no edge comes from it
  none_from : (n : StateIndex) (es : List Edge) → ((e : Edge) → Contains es e → e.source.0 ≡ n.0 → ⊥) → targets_from n es ≡ []
  none_from n [] none = refl
  none_from n (e ∷ es) none =
      ap (λ b. map edge_target (cond b (e ∷ filter (λ (d : Edge). d.source.0 == n.0) es) (filter (λ (d : Edge). d.source.0 == n.0) es))) (ne_eqb e.source.0 n.0 (none e (contains_head e es)))
      ∙ none_from n es (λ f c. none f (contains_tail e es f c))

  of_source : {L : Type 0} (n : StateIndex) (state : State L) (e : Edge) → Contains (edges_of n state) e → e.source.0 ≡ n.0
  of_source n state e c = ap (λ (k : StateIndex). k.0) ((of_state n state e c).0)

  -- a graph needs no update for a state without edges to copies
  pub state_unmoved : {L : Type 0} (source : StateIndex) (state : State L) (graph : StateGraph) → retargeted_all (number_in originals) state.shifts.entries ≡ state.shifts.entries → retargeted_all (number_in originals) state.gotos.entries ≡ state.gotos.entries → FollowsEdges originals source (edges_of source state) graph graph
  state_unmoved source state graph shifts gotos front back among g = subst (λ (es : List Edge). IsGraphOf (front ++ (es ++ back)) graph) (retraced_of source state state shifts gotos) g

  -- the targets of the state are removed, and then those of its edges are added
  module _ {L : Type 0} (source : StateIndex) (state : State L) (old b : StateGraph) (cleared : Vec (Vec StateIndex Global) Global) (shifts : AllDiffer (keys_of state.shifts.entries)) (gotos : AllDiffer (keys_of state.gotos.entries))
      (gone : IsChangedAt source.0 nothing old.successors.items cleared.items) (follows : FollowsInTurn originals (edges_of source state) (record old { successors = cleared }) b) where
    abbrev es : List Edge
    es = edges_of source state

    abbrev as_they_were : List Edge
    as_they_were = map (retraced originals) es

    abbrev mid : StateGraph
    mid = record old { successors = cleared }

    module _ (front back : List Edge) (among : StandAmong originals source front es back) (graph : IsGraphOf (front ++ (as_they_were ++ back)) old) where
      around : (n : StateIndex) (fs : List Edge) → targets_from n (front ++ (fs ++ back)) ≡ targets_from n front ++ (targets_from n fs ++ targets_from n back)
      around n fs = targets_append n front (fs ++ back) ∙ ap (λ ts. targets_from n front ++ ts) (targets_append n fs back)

      here : (n : StateIndex) → (source.0 == n.0) ≡ true → targets_of b n ≡ targets_from n (front ++ (es ++ back))
      here n is =
          let same = eqb-true source.0 n.0 is in
          follows.targets n ∙ ap (λ ts. ts ++ targets_from n es) (gone n.0 ∙ ap (λ t. cond t [] (targets_of old n)) is)
          ∙ sym (
          around n es ∙ ap (λ ts. ts ++ (targets_from n es ++ targets_from n back)) (none_from n front (λ e c from. among.before e c (from ∙ sym same)))
          ∙ ap (λ ts. targets_from n es ++ ts) (none_from n back (λ e c from. among.behind e c (from ∙ sym same))) ∙ append-nil (targets_from n es)
          )

      elsewhere : (n : StateIndex) → (source.0 == n.0) ≡ false → targets_of b n ≡ targets_from n (front ++ (es ++ back))
      elsewhere n is =
          let differs = eqb-false source.0 n.0 is in
          let none : targets_from n es ≡ [] = none_from n es (λ e c from. differs (sym (of_source source state e c) ∙ from)) in
          let none_were : targets_from n as_they_were ≡ [] = none_from n as_they_were (λ e c from.
          let h = contains_of_map (retraced originals) es e c in
          differs (sym (of_source source state h.0 h.1) ∙ ap (λ (d : Edge). d.source.0) h.2 ∙ from)) in
          follows.targets n ∙ ap (λ ts. targets_of mid n ++ ts) none ∙ append-nil (targets_of mid n)
          ∙ gone n.0 ∙ ap (λ t. cond t [] (targets_of old n)) is ∙ graph.targets n ∙ around n as_they_were
          ∙ ap (λ ts. targets_from n front ++ (ts ++ targets_from n back)) (none_were ∙ sym none) ∙ sym (around n es)

      targets : (n : StateIndex) → targets_of b n ≡ targets_from n (front ++ (es ++ back))
      targets n = elim (cases_Bool (source.0 == n.0)) [ inl is ↦ here n is | inr is ↦ elsewhere n is ]

      sources : (n : StateIndex) → origins_of b n ≡ origins n (front ++ (es ++ back))
      sources n =
          follows.sources n ∙ ap (followed_all originals es n.0) (graph.sources n)
          ∙ all_followed originals source front es back (of_source source state) (state_apart source state shifts gotos) (λ d e c k from is. among.before d c from) among.behind among.own n

    pub state_followed : FollowsEdges originals source (edges_of source state) old b
    state_followed front back among graph = record { targets = targets front back among graph; sources = sources front back among graph }

-- ---- the states one after the other
-- the new edges of the states below a number, and the old edges of the other states
abbrev pub partway : List (State Bits) → List (State Bits) → ℕ → List Edge
partway handed states i = edges (take i states) ++ edges_from i (drop i handed)

module _ (handed states : List (State Bits)) (originals : List ℕ) (copies : AreCopies false handed originals states) where
  handed_state : (n : ℕ) (before state : State Bits) → slice_get handed n ≡ Some before → slice_get states n ≡ Some state → map (retraced originals) (edges_of (record { 0 = n }) state) ≡ edges_of (record { 0 = n }) before
  handed_state n before state at there =
      let own = number_at originals n n (copies.own n (slice_get_within handed n before at)) in
      let c = copies.each n state there in
      let is : c.0 ≡ before = same_some c.0 before (sym c.1 ∙ ap (slice_get handed) own ∙ at) in
      retraced_of originals (record { 0 = n }) before state (c.2.shifts ∙ ap (λ (s : State Bits). s.shifts.entries) is) (c.2.gotos ∙ ap (λ (s : State Bits). s.gotos.entries) is)

  transition_within : (n : ℕ) (state : State Bits) (x : Symbol) (target : StateIndex) → slice_get handed n ≡ Some state → HasTransition x target state → target.0 < length handed
  transition_within n state (Terminal t) target at c =
      let p = place state.shifts.entries (t, target) c in
      let s = (copies.coherent n state at).shifts p.0 (t, target) p.2 in
      slice_get_within handed target.0 s.to s.there
  transition_within n state (Nonterminal a) target at c =
      let p = place state.gotos.entries (a, target) c in
      let s = (copies.coherent n state at).gotos p.0 (a, target) p.2 in
      slice_get_within handed target.0 s.to s.there

  own_targets : (i : ℕ) (e : Edge) → Contains (edges_from i (drop i handed)) e → number_in originals e.target.0 ≡ e.target.0
  own_targets i e c =
      let h = source_from i (drop i handed) e c in
      let within = transition_within (i + h.number) h.state e.symbol e.target (sym (slice_get-drop i handed h.number) ∙ h.there) h.transition in
      number_at originals e.target.0 e.target.0 (copies.own e.target.0 within)

  pub one_state : (i : ℕ) (state : State Bits) (old new : StateGraph) → i < length handed → i < length states → state ≡ get_or states i state → FollowsEdges originals (record { 0 = i }) (edges_of (record { 0 = i }) state) old new → IsGraphOf (partway handed states i) old → IsGraphOf (partway handed states (i + 1)) new
  one_state i state old new l within is follows graph =
      let before = filled handed i l in
      let front : List Edge = edges (take i states) in
      let es : List Edge = edges_of (record { 0 = i }) state in
      let back : List Edge = edges_from (suc i) (drop (suc i) handed) in
      let split : edges_from i (drop i handed) ≡ map (retraced originals) es ++ back =
      ap (edges_from i) (drop_split i handed before.0 before.1)
      ∙ ap (λ (fs : List Edge). fs ++ back) (sym (handed_state i before.0 state before.1 (slice_get_at states i state within is))) in
      let among : StandAmong originals (record { 0 = i }) front es back = record {
        before = λ e c from.
            let h = source_from 0 (take i states) e c in
            let number = slice_get_within (take i states) h.number h.state h.there in
            let counted = length-take-le i states (omega arith) in
            let source = h.source in
            absurd (omega arith);
        behind = λ e c from. let h = source_from (suc i) (drop (suc i) handed) e c in let source = h.source in absurd (omega arith);
        own = λ e c. own_targets i e (subst (λ (fs : List Edge). Contains fs e) (sym split) c);
      } in
      let next = follows front back among (subst (λ (fs : List Edge). IsGraphOf (front ++ fs) old) split graph) in
      let number : suc i ≡ i + 1 = omega arith in
      subst (λ (fs : List Edge). IsGraphOf fs new) (
      sym (append_assoc front es back) ∙ ap (λ (fs : List Edge). fs ++ back) (sym (edges_more states i state within is))
      ∙ ap (λ (k : ℕ). edges (take (i + 1) states) ++ edges_from k (drop k handed)) number
      ) next

  pub all_states : (i : ℕ) (graph : StateGraph) → length handed ≤ i → IsGraphOf (partway handed states i) graph → IsGraphOf (edges (take i states)) graph
  all_states i graph past g = subst (λ (fs : List Edge). IsGraphOf fs graph) (
      ap (λ (xs : List (State Bits)). edges (take i states) ++ edges_from i xs) (drop_all i handed past) ∙ append-nil (edges (take i states))
      ) g

-- ---- the update of one edge
pub edge_stays : (originals : List ℕ) (e : Edge) (old : StateGraph) (listed : Vec (Vec StateIndex Global) Global) → IsListedAt e.source.0 e.target old.successors.items listed.items → number_in originals e.target.0 ≡ e.target.0 → FollowsInTurn originals (e ∷ []) old (record old { successors = listed })
edge_stays originals e old listed more same = record {
  targets = λ n. more n.0 ∙ ap (λ ts. targets_of old n ++ ts) (map_cond edge_target (e.source.0 == n.0) e);
  sources = λ n. sym (ap (λ b. cond b (origins_of old n) (origins_moved (number_in originals e.target.0) e n.0 (origins_of old n))) (eq-eqb (number_in originals e.target.0) e.target.0 same));
}

pub edge_moves : (originals : List ℕ) (e : Edge) (was : ℕ) (old : StateGraph) (listed : Vec (Vec StateIndex Global) Global) (gone come : Vec (Vec Origin Global) Global) → was ≡ number_in originals e.target.0 → (was ≡ e.target.0 → ⊥) → IsListedAt e.source.0 e.target old.successors.items listed.items →
    IsChangedAt was (without e) old.predecessors.items gone.items → IsListedAt e.target.0 (origin_of e) gone.items come.items → FollowsInTurn originals (e ∷ []) old (record { successors = listed; predecessors = come })
edge_moves originals e was old listed gone come is differs more left came = record {
  targets = λ n. more n.0 ∙ ap (λ ts. targets_of old n ++ ts) (map_cond edge_target (e.source.0 == n.0) e);
  sources = λ n.
      came n.0 ∙ ap (λ os. os ++ cond (e.target.0 == n.0) (origin_of e ∷ []) []) (left n.0)
      ∙ ap (λ k. origins_moved k e n.0 (origins_of old n)) is
      ∙ sym (ap (λ b. cond b (origins_of old n) (origins_moved (number_in originals e.target.0) e n.0 (origins_of old n))) (ne_eqb (number_in originals e.target.0) e.target.0 (λ same. differs (is ∙ same))));
}

-- ---- the update of edges in turn
module _ (originals : List ℕ) where
  followed_on : (es fs : List Edge) (a b c : StateGraph) → FollowsInTurn originals es a b → FollowsInTurn originals fs b c → FollowsInTurn originals (es ++ fs) a c
  followed_on es fs a b c g h = record {
    targets = λ n. h.targets n ∙ ap (λ ts. ts ++ targets_from n fs) (g.targets n) ∙ append_assoc (targets_of a n) (targets_from n es) (targets_from n fs) ∙ ap (λ ts. targets_of a n ++ ts) (sym (targets_append n es fs));
    sources = λ n. h.sources n ∙ ap (followed_all originals fs n.0) (g.sources n) ∙ sym (followed_append originals es fs n.0 (origins_of a n));
  }

  -- some edges were updated, and with those that are left they are all edges
  pub record IsFollowing (left all : List Edge) (old new : StateGraph) : Type 0 where
    pub done : List Edge
    pub followed_ones : FollowsInTurn originals done old new
    pub whole : done ++ left ≡ all

  pub following_start : (all : List Edge) (graph : StateGraph) → IsFollowing all all graph graph
  following_start all graph = record { done = []; followed_ones = record { targets = λ n. sym (append-nil (targets_of graph n)); sources = λ n. refl }; whole = refl }

  pub following_more : (e f : Edge) (before left all : List Edge) (old new next : StateGraph) → before ≡ e ∷ left → f ≡ e → IsFollowing before all old new → FollowsInTurn originals (f ∷ []) new next → IsFollowing left all old next
  following_more e f before left all old new next first same a g = record {
    done = a.done ++ f ∷ [];
    followed_ones = followed_on a.done (f ∷ []) old new next a.followed_ones g;
    whole = append_assoc a.done (f ∷ []) left ∙ ap (λ h. a.done ++ h ∷ left) same ∙ ap (λ es. a.done ++ es) (sym first) ∙ a.whole;
  }

  pub following_end : (left all : List Edge) (old new : StateGraph) → left ≡ [] → IsFollowing left all old new → FollowsInTurn originals all old new
  following_end left all old new none a = let P : List Edge → Type 0 = λ es. FollowsInTurn originals es old new in subst P (sym (append-nil a.done) ∙ ap (λ es. a.done ++ es) (sym none) ∙ a.whole) a.followed_ones

  -- ---- transitions that lead to no copy
  pub unmoved_more : {K : Type 0} (before rest : List (K × StateIndex)) (k : K) (t : StateIndex) → before ≡ (k, t) ∷ rest → number_in originals t.0 ≡ t.0 → retargeted_all (number_in originals) rest ≡ rest → retargeted_all (number_in originals) before ≡ before
  unmoved_more {K} before rest k t first same others =
      ap (retargeted_all (number_in originals)) first ∙ ap (λ (n : ℕ). (k, index n) ∷ retargeted_all (number_in originals) rest) same
      ∙ ap (λ (es : List (K × StateIndex)). (k, t) ∷ es) others ∙ sym first

-- there are at least as many states with the copies as before
pub copies_longer : (handed states : List (State Bits)) (originals : List ℕ) → AreCopies false handed originals states → length handed ≤ length states
copies_longer handed states originals c = elim (cases_lt (length states) (length handed)) [
  | inl l ↦ absurd (let w = slice_get_within originals (length states) (length states) (c.own (length states) l) in let k = c.counted in omega arith)
  | inr past ↦ past
]
