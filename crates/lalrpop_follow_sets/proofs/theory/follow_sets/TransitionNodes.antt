-- The nodes of transitions, one state after the other.
use Rattle.std.proofs.Common.{◌≡◌, ◌∙◌, ◌⊎◌, inl, inr, ℕ, zero, suc, ◌+◌, ◌<◌, List, [], ◌∷◌, ◌++◌, length, length-append, refl, sym, ap, arith}
use Rattle.std.specs.Prelude.{slice_get, get_or, Option, Some, None}
use Rattle.std.proofs.lemmas.List.{get_or_append_left}
use Rattle.std.proofs.Math.Seq.{get_or-append_seam}
use Rattle.std.proofs.lemmas.Option.{slice_get_within}
use Rattle.lalrpop_base.specs.Words.{AllDiffer, SymbolsAscend}
use Rattle.lalrpop_follow_sets.proofs.Types.{NonterminalString, Symbol}
use Rattle.lalrpop_grammar.specs.declared.repr.Symbol.TheVariants.{Nonterminal}
use Rattle.lalrpop_follow_sets.specs.follow_sets.FollowNodes.{IsTransitionNode, nonterminals_of}
use Rattle.lalrpop_construction.specs.states.NumberedStates.{listed_transitions, transitions_at}
use Rattle.lalrpop_construction.specs.declared.construction.numbered_state.NumberedState.{NumberedState}
use Rattle.lalrpop_follow_sets.proofs.theory.states.NonterminalEdges.{Listed-at, pair_at, pairs_differ}
use Rattle.lalrpop_collections.proofs.theory.lists.Places.{push_cases, slice_get-longer, slice_get-push_at, slice_get-append_behind}

-- a transition is at the place among those of a state
pub record IsEdgeOf (o : Option NumberedState) (place : ℕ) (e : ℕ × ℕ) : Type 0 where
  pub state : NumberedState
  pub is : o ≡ Some state
  pub edge : slice_get state.edges.items place ≡ Some e

-- each transition that is listed is one of the state
pub Edge-of : (o : Option NumberedState) (place : ℕ) (e : ℕ × ℕ) → slice_get (listed_transitions o) place ≡ Some e → IsEdgeOf o place e
Edge-of None place e at = cc
Edge-of (Some state) place e at = record { state = state; is = refl; edge = at }

-- the transitions of a state
pub edges_are : (states : List NumberedState) (s : ℕ) (state : NumberedState) → slice_get states s ≡ Some state → transitions_at states s ≡ state.edges.items
edges_are states s state at = ap listed_transitions at

-- a place in two lists is a place in the first, or one in the second that is counted from the end
-- of the first
append_at : {X : Type 0} (xs ys : List X) (k : ℕ) (x : X) → slice_get (xs ++ ys) k ≡ Some x → (slice_get xs k ≡ Some x) ⊎ ((j : ℕ) × (k ≡ length xs + j) × (slice_get ys j ≡ Some x))
append_at [] ys k x at = inr (k, omega arith, at)
append_at (y ∷ xs) ys zero x at = inl at
append_at (y ∷ xs) ys (suc k) x at = elim (append_at xs ys k x at) [
  | inl was ↦ inl was
  | inr new ↦ inr (new.0, let e = new.1 in omega arith, new.2)
]

-- the nodes of the transitions of states, as lists
pub record HaveNodes (symbols : List Symbol) (states : List NumberedState) (firsts : List ℕ) (pairs : List (ℕ × ℕ)) : Type 0 where
  pub counted : length firsts ≡ length states
  pub here : (s place x target : ℕ) (a : NonterminalString) → slice_get (transitions_at states s) place ≡ Some (x, target) → slice_get symbols x ≡ Some (Nonterminal a) → slice_get pairs (get_or firsts s 0 + place) ≡ Some (s, x)
  pub from : (node s x : ℕ) → slice_get pairs node ≡ Some (s, x) → IsTransitionNode symbols states firsts node s x
  pub differ : AllDiffer pairs

-- no states have no nodes
pub Have-none : (symbols : List Symbol) → HaveNodes symbols [] [] []
Have-none symbols = record {
  counted = refl;
  here = λ s place x target a edge symbol. cc;
  from = λ node s x at. cc;
  differ = λ i j x l at. cc;
}

module _ (symbols : List Symbol) (ascend : SymbolsAscend symbols) (done : List NumberedState) (state : NumberedState) (firsts : List ℕ) (pairs : List (ℕ × ℕ)) (before : HaveNodes symbols done firsts pairs) where
  abbrev number : ℕ
  number = length done

  abbrev added : List (ℕ × ℕ)
  added = nonterminals_of symbols number state.edges.items

  abbrev states : List NumberedState
  states = done ++ state ∷ []

  abbrev more : List ℕ
  more = firsts ++ length pairs ∷ []

  -- the states before keep their first nodes, and the new state has the next one
  first_kept : (s : ℕ) → s < number → get_or more s 0 ≡ get_or firsts s 0
  first_kept s l = let c = before.counted in get_or_append_left firsts (length pairs ∷ []) 0 s (omega arith)

  first_new : get_or more number 0 ≡ length pairs
  first_new = ap (λ (n : ℕ). get_or more n 0) (sym before.counted) ∙ get_or-append_seam firsts (length pairs) [] 0

  -- each transition over a nonterminal has its node
  here : (s place x target : ℕ) (a : NonterminalString) → slice_get (transitions_at states s) place ≡ Some (x, target) → slice_get symbols x ≡ Some (Nonterminal a) → slice_get (pairs ++ added) (get_or more s 0 + place) ≡ Some (s, x)
  here s place x target a edge symbol =
      let e = Edge-of (slice_get states s) place (x, target) edge in
      elim (push_cases done state s e.state e.is) [
        | inl was ↦
            let old = before.here s place x target a (ap (λ (es : List (ℕ × ℕ)). slice_get es place) (edges_are done s e.state was) ∙ e.edge) symbol in
            ap (λ (n : ℕ). slice_get (pairs ++ added) (n + place)) (first_kept s (slice_get_within done s e.state was)) ∙ slice_get-longer pairs added (get_or firsts s 0 + place) (s, x) old
        | inr last ↦
            let at : slice_get state.edges.items place ≡ Some (x, target) = ap (λ (t : NumberedState). slice_get t.edges.items place) last.1 ∙ e.edge in
            ap (λ (n : ℕ). slice_get (pairs ++ added) (get_or more n 0 + place)) last.0 ∙ ap (λ (n : ℕ). slice_get (pairs ++ added) (n + place)) first_new ∙ slice_get-append_behind pairs added place ∙ pair_at symbols number ascend state.edges.items state.ascend place x target a at symbol ∙ ap (λ (n : ℕ). Some (n, x)) (sym last.0)
      ]

  -- each node is that of a transition
  old_node : (node s x : ℕ) → IsTransitionNode symbols done firsts node s x → IsTransitionNode symbols states more node s x
  old_node node s x t =
      let e = Edge-of (slice_get done s) t.place (x, t.target) t.edge in
      record {
        place = t.place;
        target = t.target;
        name = t.name;
        edge = ap (λ (es : List (ℕ × ℕ)). slice_get es t.place) (edges_are states s e.state (slice_get-longer done (state ∷ []) s e.state e.is)) ∙ e.edge;
        symbol = t.symbol;
        number = t.number ∙ ap (λ (n : ℕ). n + t.place) (sym (first_kept s (slice_get_within done s e.state e.is)));
      }

  old_state : (node s x : ℕ) → slice_get pairs node ≡ Some (s, x) → s < number
  old_state node s x at =
      let t = before.from node s x at in
      let e = Edge-of (slice_get done s) t.place (x, t.target) t.edge in
      slice_get_within done s e.state e.is

  new_node : (node s x j : ℕ) → node ≡ length pairs + j → slice_get added j ≡ Some (s, x) → IsTransitionNode symbols states more node s x
  new_node node s x j is at =
      let l = Listed-at symbols number state.edges.items j (s, x) at in
      record {
        place = j;
        target = l.target;
        name = l.name;
        edge = ap (λ (n : ℕ). slice_get (transitions_at states n) j) l.state ∙ ap (λ (es : List (ℕ × ℕ)). slice_get es j) (edges_are states number state (slice_get-push_at done state)) ∙ l.edge;
        symbol = l.symbol;
        number = is ∙ ap (λ (n : ℕ). n + j) (sym (ap (λ (n : ℕ). get_or more n 0) l.state ∙ first_new));
      }

  from : (node s x : ℕ) → slice_get (pairs ++ added) node ≡ Some (s, x) → IsTransitionNode symbols states more node s x
  from node s x at = elim (append_at pairs added node (s, x) at) [
    | inl was ↦ old_node node s x (before.from node s x was)
    | inr new ↦ new_node node s x new.0 new.1 new.2
  ]

  -- no node comes twice
  differ : AllDiffer (pairs ++ added)
  differ i j p l at_i at_j = elim (append_at pairs added i p at_i) [
    | inl first ↦ elim (append_at pairs added j p at_j) [
      | inl second ↦ before.differ i j p l first second
      | inr second ↦
          let less = old_state i p.0 p.1 first in
          let same = (Listed-at symbols number state.edges.items second.0 p second.2).state in
          omega arith
    ]
    | inr first ↦ elim (append_at pairs added j p at_j) [
      | inl second ↦ let within = slice_get_within pairs j p second in let e = first.1 in omega arith
      | inr second ↦
          let e = first.1 in
          let f = second.1 in
          pairs_differ symbols number state.edges.items state.ascend first.0 second.0 p (omega arith) first.2 second.2
    ]
  ]

  -- the nodes of one state more
  pub Have-more : HaveNodes symbols states more (pairs ++ added)
  Have-more = record {
    counted = length-append firsts (length pairs ∷ []) ∙ ap (λ (n : ℕ). n + 1) before.counted ∙ sym (length-append done (state ∷ []));
    here = here;
    from = from;
    differ = differ;
  }
