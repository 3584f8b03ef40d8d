-- Coherent states of the code, by their contents.
use Rattle.std.proofs.Common.{◌≡◌, ℕ, suc, ◌-◌, ◌<◌, Bool, List, length, map, Option, Some, None, refl, sym, ap, subst, ◌∙◌, arith}
use Rattle.std.specs.Prelude.{Contains, slice_get, option_map, IfSome}
use Rattle.std.specs.BTreeMap.{BTreeMap, get}
use Rattle.std.specs.Cmp.{IsTotalOrder}
use Rattle.std.proofs.lemmas.Map.Lookups.{CmpEqualImpliesEq}
use Rattle.std.specs.declared.cmp.Ordering.{Ordering}
use Rattle.std.specs.Ordering.{is_eq}
use Rattle.lalrpop_collections.specs.Words.{Exactly, Ties, EachEntry}
use Rattle.lalrpop_grammar.specs.Words.{name_exact, Contents, leads}
use Rattle.lalrpop_states.specs.Words.{Dotted, AreCoherent, IsCoherentStep, HasItem, number_of, dotted_of}
use Rattle.lalrpop_states.specs.Words.{reduction_of, contents_of, contents_at, contents_in}
use Rattle.lalrpop_grammar.specs.contracts.repr.TerminalStringOrd.TheImpl as terminal_ord
use Rattle.lalrpop_grammar.specs.contracts.repr.NonterminalStringOrd.TheImpl as name_ord
use Rattle.lalrpop_grammar.specs.contracts.repr.TerminalStringPartialEq.TheImpl as terminal_eq
use Rattle.lalrpop_grammar.specs.contracts.repr.NonterminalStringPartialEq.TheImpl as name_eq
use Rattle.lalrpop_grammar.specs.contracts.repr.exact.TerminalStringExact.TheImpl as terminal_exact
use Rattle.std.proofs.lemmas.Option.{slice_get_within}
use Rattle.std.proofs.lemmas.Map.Views.{IfSome-get}
use Rattle.lalrpop_grammar.specs.states.States.{Reduction}
use Rattle.lalrpop_states.proofs.Types.{Production, State, StateIndex, Symbol, Token}
use Rattle.lalrpop_grammar.specs.declared.repr.Symbol.TheVariants.{Nonterminal, Terminal}
use Rattle.lalrpop_collections.proofs.theory.lists.Lists.{contains_place, place_contains, contains_map, contains_of_map, some_of_map}

-- an edge leads to a state of the list, whose moved items come over it
pub record IsEdge (states : ℕ → Contents) (count n : ℕ) (x : Symbol) (m : ℕ) : Type 0 where
  pub within : m < count
  pub over : (p : Production) (d : ℕ) → Contains (states m).items (p, suc d) → slice_get p.symbols d ≡ Some x
  pub origin : (p : Production) (d : ℕ) → Contains (states m).items (p, suc d) → Contains (states n).items (p, d)

-- contents of coherent states: all dots of state 0 are at the start, moved items come over edges,
-- and reductions are finished items
pub record LeadAsItemsSay (states : ℕ → Contents) (count : ℕ) : Type 0 where
  pub start : (p : Production) (d : ℕ) → Contains (states 0).items (p, d) → d ≡ 0
  pub edges : (n m : ℕ) (x : Symbol) → leads (states n) x ≡ Some m → IsEdge states count n x m
  pub finished : (n : ℕ) (r : Reduction) → Contains (states n).reductions r → Contains (states n).items (r.production, length r.production.symbols)

-- an order is exact if `==` is exact and the order agrees with it
exact_order : {K : Type 0} (E : K → K → Bool) (R : K → K → Ordering) → Exactly E → Ties E R → CmpEqualImpliesEq R
exact_order E R exact ties x y e = exact x y (ties x y ∙ ap is_eq e)

pub terminals_ordered : CmpEqualImpliesEq terminal_ord.ghosts.cmp
terminals_ordered = exact_order terminal_eq.ghosts.eq terminal_ord.ghosts.cmp terminal_exact.Laws.exact-law terminal_ord.Laws.matches_eq-law

pub names_ordered : CmpEqualImpliesEq name_ord.ghosts.cmp
names_ordered = exact_order name_eq.ghosts.eq name_ord.ghosts.cmp name_exact name_ord.Laws.matches_eq-law

-- a property of each entry of a map is one of the value at a key
entry_at : {K : Type 0} {R : K → K → Ordering} → IsTotalOrder R → CmpEqualImpliesEq R → (P : K → StateIndex → Type 0) (m : BTreeMap K StateIndex) (key : K) (n : ℕ) →
    EachEntry P m.entries → option_map number_of (get R m key) ≡ Some n → (target : StateIndex) × (target.0 ≡ n) × P key target
entry_at {R = R} total exact P m key n each e =
    let (target, there, same) = some_of_map number_of (get R m key) n e in
    let among = subst (λ o. IfSome o (λ v. Contains m.entries (key, v))) there (IfSome-get total exact m key) in
    let (k, place) = contains_place m.entries (key, target) among in
    (target, same, each k (key, target) place)

module _ {L : Type 0} (holds : L → Token → Bool) where
  has_item : (items : List (Dotted L)) (p : Production) (d : ℕ) → HasItem items p d → Contains (map dotted_of items) (p, d)
  has_item items p d (k, item, there, at) =
      let e : (item.production, item.index) ≡ (p, d) = ap (λ (q : Production). (q, item.index)) at.same ∙ ap (λ (i : ℕ). (p, i)) at.dot in
      subst (Contains (map dotted_of items)) e (contains_map dotted_of items item (place_contains items k item there))

  item_of : (items : List (Dotted L)) (p : Production) (d : ℕ) → Contains (map dotted_of items) (p, d) →
      (k : ℕ) × (item : Dotted L) × (slice_get items k ≡ Some item) × (item.production ≡ p) × (item.index ≡ d)
  item_of items p d h =
      let (item, there, same) = contains_of_map dotted_of items (p, d) h in
      let (k, place) = contains_place items item there in
      (k, item, place, ap (λ (i : Production × ℕ). i.0) same, ap (λ (i : Production × ℕ). i.1) same)

  contents_there : (states : List (State L)) (n : ℕ) (state : State L) → slice_get states n ≡ Some state → contents_in holds states n ≡ contents_of holds state
  contents_there states n state e = ap (contents_at holds) e

  -- a coherent step of states of the code is an edge of their contents
  step_edge : (states : List (State L)) (n : ℕ) (state : State L) (x : Symbol) (m : ℕ) → slice_get states n ≡ Some state → IsCoherentStep states state.items.vec.items x m → IsEdge (contents_in holds states) (length states) n x m
  step_edge states n state x m e step =
      let items : (p : Production) (d : ℕ) → Contains (contents_in holds states m).items (p, suc d) → Contains (contents_of holds step.to).items (p, suc d) =
      λ p d. subst (λ (c : Contents). Contains c.items (p, suc d)) (contents_there states m step.to step.there) in
      record {
        within = slice_get_within states m step.to step.there;
        over = λ p d h.
            let (k, item, place, same, dot) = item_of step.to.items.vec.items p (suc d) (items p d h) in
            let moved = step.came k item place (let dot' : item.index ≡ suc d = dot in omega arith) in
            let before : item.index - 1 ≡ d = let dot' : item.index ≡ suc d = dot in omega arith in
            subst (λ (q : Production). slice_get q.symbols d ≡ Some x) same (subst (λ i. slice_get item.production.symbols i ≡ Some x) before moved.over);
        origin = λ p d h.
            let (k, item, place, same, dot) = item_of step.to.items.vec.items p (suc d) (items p d h) in
            let moved = step.came k item place (let dot' : item.index ≡ suc d = dot in omega arith) in
            let before : item.index - 1 ≡ d = let dot' : item.index ≡ suc d = dot in omega arith in
            let source : HasItem state.items.vec.items p d = subst (λ (q : Production). HasItem state.items.vec.items q d) same (subst (λ i. HasItem state.items.vec.items item.production i) before moved.origin) in
            subst (λ (c : Contents). Contains c.items (p, d)) (sym (contents_there states n state e)) (has_item state.items.vec.items p d source);
      }

  -- the contents of coherent states lead to one another as their items say
  pub lead_as_items_say : (states : List (State L)) → AreCoherent states → LeadAsItemsSay (contents_in holds states) (length states)
  lead_as_items_say states coherent = record {
    start = λ p d. started (slice_get states 0) refl p d;
    edges = λ n m x. edge n (slice_get states n) refl x m;
    finished = λ n r. ended n (slice_get states n) refl r;
  }
    where
      started : (o : Option (State L)) → slice_get states 0 ≡ o → (p : Production) (d : ℕ) → Contains (contents_at holds o).items (p, d) → d ≡ 0
      started None e p d h = absurd (let l : h.0 < 0 = h.1 in omega arith)
      started (Some state) e p d h =
          let (k, item, place, same, dot) = item_of state.items.vec.items p d h in
          sym dot ∙ (coherent 0 state e).start refl k item place

      edge : (n : ℕ) (o : Option (State L)) → slice_get states n ≡ o → (x : Symbol) (m : ℕ) → leads (contents_at holds o) x ≡ Some m → IsEdge (contents_in holds states) (length states) n x m
      edge n None e (Nonterminal name) m h = cc
      edge n None e (Terminal t) m h = cc
      edge n (Some state) e (Nonterminal name) m h =
          let (target, same, step) = entry_at name_ord.Laws.total-law names_ordered (λ name target. IsCoherentStep states state.items.vec.items (Nonterminal name) target.0) state.gotos name m (coherent n state e).gotos h in
          step_edge states n state (Nonterminal name) m e (subst (IsCoherentStep states state.items.vec.items (Nonterminal name)) same step)
      edge n (Some state) e (Terminal t) m h =
          let (target, same, step) = entry_at terminal_ord.Laws.total-law terminals_ordered (λ t target. IsCoherentStep states state.items.vec.items (Terminal t) target.0) state.shifts t m (coherent n state e).shifts h in
          step_edge states n state (Terminal t) m e (subst (IsCoherentStep states state.items.vec.items (Terminal t)) same step)

      ended : (n : ℕ) (o : Option (State L)) → slice_get states n ≡ o → (r : Reduction) → Contains (contents_at holds o).reductions r → Contains (contents_in holds states n).items (r.production, length r.production.symbols)
      ended n None e r h = absurd (let l : h.0 < 0 = h.1 in omega arith)
      ended n (Some state) e r h =
          let (pair, there, same) = contains_of_map (reduction_of holds) state.reductions.items r h in
          let (k, place) = contains_place state.reductions.items pair there in
          let item = (coherent n state e).finished k pair place in
          subst (λ (c : Contents). Contains c.items (r.production, length r.production.symbols)) (sym (contents_there states n state e))
          (subst (λ (q : Production). Contains (contents_of holds state).items (q, length q.symbols)) (ap (λ (q : Reduction). q.production) same)
          (has_item state.items.vec.items pair.1.now (length pair.1.now.symbols) item))
