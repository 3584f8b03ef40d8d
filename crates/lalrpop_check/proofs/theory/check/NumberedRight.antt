-- States by number that list closures and lead on meet the conditions of the check.
use Rattle.std.proofs.Common.{◌≡◌, ◌∙◌, ℕ, zero, suc, Bool, ◌<◌, ◌≤◌, ◌+◌, ◌-◌, List, [], ◌∷◌, length, map, refl, sym, ap, subst, arith, inl, inr, true, Option, Some, None, option_map, ⊎_elim}
use Rattle.std.specs.Prelude.{◌↔◌, slice_get, Contains}
use Rattle.std.specs.Borrow.{Bor}
use Rattle.std.specs.BTreeSet.{BTreeSet}
use Rattle.std.proofs.lemmas.Bool.{cases_lt}
use Rattle.std.proofs.lemmas.List.{length-map}
use Rattle.std.proofs.lemmas.Option.{slice_get_within, slice_get-map}
use Rattle.lalrpop_base.specs.Words.{AllDiffer, AreCoherent, Bits, Dotted, InKernel, IsAtStart, contents_at, in_kernel, contents_of, leads, productions, rules_of}
use Rattle.lalrpop_base.specs.Words.{AreAllConflictFree, IsMovedIn, IsReached, IsRightItem, IsRightState, IsRightTarget, IsTarget, AreRightStates, at_zero, with_dot}
use Rattle.lalrpop_base.specs.Words.{AreNumbers, AreClosure}
use Rattle.lalrpop_grammar.specs.closures.Closures.{over_edge}
use Rattle.lalrpop_states.specs.states.Items.{dots, dotted_of}
use Rattle.lalrpop_states.specs.states.CheckStates.{AreListed, IsListed, productions_of_reductions, target_of}
use Rattle.lalrpop_check.proofs.Types.{Grammar, Nil, NonterminalString, Production, State, Symbol, Token}
use Rattle.lalrpop_grammar.specs.declared.repr.Symbol.TheVariants.{Nonterminal, Terminal}
use Rattle.lalrpop_collections.proofs.theory.lists.Members.{Contains-none, contains-cons, contains_head, contains_map, contains_tail, place}
use Rattle.lalrpop_collections.proofs.theory.lists.Places.{contains_at, filled, one_place, same_some}
use Rattle.lalrpop_states.proofs.theory.states.ContentsViews.{lead_as_items_say}
use Rattle.lalrpop_collections.proofs.theory.lists.Lists.{contains_of_map, some_of_map}
use Rattle.lalrpop_check.specs.check.ByNumber.{AllItemsLeadOn, AreListedByNumber, AreReachedByNumber, IsListedState, IsReachedByNumber, LeadsByNumber, at_first, over_transition}
use Rattle.lalrpop_follow_sets.specs.follow_sets.FollowNodes.{AreAllReached, AreItemsOfGrammar}
use Rattle.lalrpop_construction.specs.states.SamePlaces.{places_in}
use Rattle.lalrpop_construction.specs.states.NumberedStates.{AreNumberedStates, item_numbers_at, listed_items, listed_transitions, transitions_at}
use Rattle.lalrpop_numbers.specs.declared.numbers.Numbers.{Numbers}
use Rattle.lalrpop_construction.specs.declared.construction.numbered_state.NumberedState.{NumberedState}
use Rattle.lalrpop_construction.proofs.theory.canonical.Canonical.{InClosure-more}
use Rattle.lalrpop_check.proofs.theory.check.CheckTables.{item_at}
use Rattle.lalrpop_check.proofs.theory.check.NumberedItems.{behind_none, behind_some, by_parts, one_dot, one_production}
use Rattle.lalrpop_check.proofs.theory.check.NumberedSteps.{Listed-numbered}
use Rattle.lalrpop_states.proofs.theory.grammars.AscendingItems.{items_differ}
use Rattle.lalrpop_construction.proofs.theory.construction.SameKernels.{past_in_kernel}
use Rattle.lalrpop_construction.proofs.theory.construction.Shifting.{of_dotted}

-- ---- the numbers from one to a count
pub positive : ℕ → List ℕ
positive zero = []
positive (suc n) = suc n ∷ positive n

pub in_positive : (n m : ℕ) → 0 < m → m ≤ n → Contains (positive n) m
unfolding positive
in_positive zero m l h = absurd (omega (arith, l, h))
in_positive (suc n) m l h =
    ⊎_elim (λ last. let e : suc n ≡ m = omega (arith, last, h) in subst (λ (k : ℕ). Contains (suc n ∷ positive n) k) e (contains_head (suc n) (positive n)))
    (λ less. contains_tail (suc n) (positive n) m (in_positive n m l less))
    (cases_lt n m)

pub from_positive : (n m : ℕ) → Contains (positive n) m → (0 < m) × (m ≤ n)
unfolding positive
from_positive zero m c = absurd (Contains-none m c)
from_positive (suc n) m c = elim (contains-cons (suc n) (positive n) m c) [ inl e ↦ (omega (arith, e), omega (arith, e)) | inr rest ↦ let r = from_positive n m rest in (r.0, omega (arith, r.1)) ]

-- the target of a symbol in the contents is that in the state
lead_target : (h : Bits → Token → Bool) (s : State Bits) (x : Symbol) → leads (contents_of h s) x ≡ target_of s x
lead_target h s (Terminal t) = refl
lead_target h s (Nonterminal a) = refl

-- the dotted productions of a state as keys
abbrev pub keys_of_state : State Bits → BTreeSet (Dotted Nil)
keys_of_state s = record { keys = map (λ (d : Production × ℕ). with_dot d.0 d.1) (dots s.items.vec.items) }

pub keys_list : (s : State Bits) (k : Dotted Nil) → Contains (keys_of_state s).keys k ↔ Contains (dots s.items.vec.items) (k.production, k.index)
keys_list s k =
    let make : Production × ℕ → Dotted Nil = λ d. with_dot d.0 d.1 in (
      λ c.
          let f = contains_of_map make (dots s.items.vec.items) k c in
          subst (λ (i : Dotted Nil). Contains (dots s.items.vec.items) (i.production, i.index)) f.2 f.1,
      λ c. subst (Contains (keys_of_state s).keys) (sym (by_parts k)) (contains_map make (dots s.items.vec.items) (k.production, k.index) c),
    )

pub listed_all : (states : List (State Bits)) → AreListed states (map keys_of_state states)
listed_all states = record {
  counted = length-map states keys_of_state;
  each = λ n s here at listed.
      let f = some_of_map keys_of_state (slice_get states n) here (sym (slice_get-map keys_of_state states n) ∙ listed) in
      let same : keys_of_state s ≡ here = ap keys_of_state (same_some s f.0 (sym at ∙ f.1)) ∙ f.2 in
      subst (λ (set : BTreeSet (Dotted Nil)). (k : Dotted Nil) → Contains set.keys k ↔ Contains (dots s.items.vec.items) (k.production, k.index)) same (keys_list s);
}

module _ (g : Grammar) (n : Numbers) (numbers : AreNumbers (rules_of g) n) (start : NonterminalString) where
  abbrev known : List (Dotted Nil)
  known = n.items.items

  -- ---- one state
  module _ (s : ℕ) (old : State Bits) (state : NumberedState) (h : IsListedState (rules_of g) start n s old state) where
    abbrev olds : List (Production × ℕ)
    olds = dots old.items.vec.items

    -- a listed dotted production by its number
    pub record IsListedAs (p : Production) (dot : ℕ) : Type 0 where
      pub number : ℕ
      pub at : slice_get known number ≡ Some (with_dot p dot)
      pub among : Contains state.items.items number

    pub number_of_item : (i : Dotted Bits) → Contains old.items.vec.items i → IsListedAs i.production i.index
    number_of_item i c =
        let f = place old.items.vec.items i c in
        let counted = h.over.listed.counted in
        let k = filled state.items.items f.0 (omega (arith, f.1, counted)) in
        record { number = k.0; at = h.over.listed.each f.0 k.0 i f.2 k.1; among = contains_at state.items.items k.0 f.0 k.1 }

    pub listed_as : (p : Production) (dot : ℕ) → Contains olds (p, dot) → IsListedAs p dot
    listed_as p dot c =
        let i = item_at old.items.vec.items p dot c in
        let k = number_of_item i.0 i.1 in
        record { number = k.number; at = k.at ∙ ap (λ (q : Production). Some (with_dot q (i.0).index)) i.2 ∙ ap (λ (d : ℕ). Some (with_dot p d)) i.3; among = k.among }

    pub as_listed : (p : Production) (dot k : ℕ) → slice_get known k ≡ Some (with_dot p dot) → Contains state.items.items k → Contains olds (p, dot)
    as_listed p dot k at c =
        let f = place state.items.items k c in
        let counted = h.over.listed.counted in
        let i = filled old.items.vec.items f.0 (omega (arith, f.1, counted)) in
        let same = same_some (with_dot (i.0).production (i.0).index) (with_dot p dot) (sym (h.over.listed.each f.0 k i.0 i.1 f.2) ∙ at) in
        let there = contains_map dotted_of old.items.vec.items i.0 (contains_at old.items.vec.items i.0 f.0 i.1) in
        subst (λ (d : ℕ). Contains olds (p, d)) (one_dot (i.0).production p (i.0).index dot same) (subst (λ (q : Production). Contains olds (q, (i.0).index)) (one_production (i.0).production p (i.0).index dot same) there)

    -- the state has the closure of its kernel
    closure_over : (K : Production → ℕ → Type 0) → ((p : Production) (dot : ℕ) → InKernel h.kernel p dot → K p dot) → ((p : Production) (dot : ℕ) → K p dot → InKernel h.kernel p dot) → AreClosure g K (keys_of_state old).keys
    closure_over K to back k = (
      λ c. InClosure-more (productions g) (InKernel h.kernel) K to ((h.closed k.production k.index).0 ((keys_list old k).0 c)),
      λ c. (keys_list old k).1 ((h.closed k.production k.index).1 (InClosure-more (productions g) K (InKernel h.kernel) back c)),
    )

    -- the first state is the closure of the start
    pub first_closed : s ≡ 0 → AreClosure g (IsAtStart (productions g) start) (keys_of_state old).keys
    first_closed first = closure_over (IsAtStart (productions g) start) (λ p dot. (h.is.first first p dot).0) (λ p dot. (h.is.first first p dot).1)

    -- another state is the closure of its moved items
    pub moved_closed : 0 < s → IsRightTarget g old.items.vec.items (keys_of_state old).keys
    moved_closed other = record {
      some =
          let i = filled h.kernel 0 (h.is.some other) in
          let c = kernel_listed (i.0).production (i.0).index (contains_map dotted_of h.kernel i.0 (contains_at h.kernel i.0 0 i.1)) in
          let f = of_dotted old.items.vec.items ((i.0).production, (i.0).index) c in
          let at = place old.items.vec.items f.0 f.1 in
          omega (arith, at.1);
      closed = closure_over (IsMovedIn olds) to back;
    }
      where
        kernel_listed : (p : Production) (dot : ℕ) → InKernel h.kernel p dot → Contains olds (p, dot)
        kernel_listed p dot k = (h.closed p dot).1 (in_kernel k)

        to : (p : Production) (dot : ℕ) → InKernel h.kernel p dot → IsMovedIn olds p dot
        to p dot k =
            let i = of_dotted h.kernel (p, dot) k in
            (subst (λ (d : Production × ℕ). 0 < d.1) i.2 (h.is.moved other i.0 i.1), kernel_listed p dot k)

        back : (p : Production) (dot : ℕ) → IsMovedIn olds p dot → InKernel h.kernel p dot
        back p zero m = absurd (let l = m.0 in omega arith)
        back p (suc d) m = past_in_kernel (productions g) (InKernel h.kernel) d refl ((h.closed p (suc d)).0 m.1)

    -- each finished item is reduced
    pub finished_reduced : (i : Dotted Bits) → Contains old.items.vec.items i → i.index ≡ length i.production.symbols → Contains (productions_of_reductions old.reductions.items) i.production
    finished_reduced i c end =
        let k = number_of_item i c in
        let none = behind_none (rules_of g) n numbers k.number (with_dot i.production i.index) k.at end in
        let f = place state.reductions.items k.number (h.over.finished k.number k.among none) in
        let counted = h.over.reduced.counted in
        let r = filled old.reductions.items f.0 (omega (arith, f.1, counted)) in
        let same = same_some (with_dot (r.0).1.now (length (r.0).1.now.symbols)) (with_dot i.production i.index) (sym (h.over.reduced.each f.0 k.number r.0 r.1 f.2) ∙ k.at) in
        subst (Contains (productions_of_reductions old.reductions.items)) (one_production (r.0).1.now i.production (length (r.0).1.now.symbols) i.index same)
        (contains_map (λ (q : Bits × Bor Production). q.1.now) old.reductions.items r.0 (contains_at old.reductions.items r.0 f.0 r.1))

    -- each finished item is reduced once
    pub reduced_once : AllDiffer (productions_of_reductions old.reductions.items)
    reduced_once i j p l at_i at_j =
        let by : Bits × Bor Production → Production = λ q. q.1.now in
        let a = some_of_map by (slice_get old.reductions.items i) p (sym (slice_get-map by old.reductions.items i) ∙ at_i) in
        let b = some_of_map by (slice_get old.reductions.items j) p (sym (slice_get-map by old.reductions.items j) ∙ at_j) in
        let counted = h.over.reduced.counted in
        let in_i = slice_get_within old.reductions.items i a.0 a.1 in
        let in_j = slice_get_within old.reductions.items j b.0 b.1 in
        let k = filled state.reductions.items i (omega (arith, in_i, counted)) in
        let m = filled state.reductions.items j (omega (arith, in_j, counted)) in
        let end : Production → Dotted Nil = λ q. with_dot q (length q.symbols) in
        let at_k : slice_get known k.0 ≡ Some (end p) = h.over.reduced.each i k.0 a.0 a.1 k.1 ∙ ap (λ (q : Production). Some (end q)) a.2 in
        let at_m : slice_get known m.0 ≡ Some (end p) = h.over.reduced.each j m.0 b.0 b.1 m.1 ∙ ap (λ (q : Production). Some (end q)) b.2 in
        let same : k.0 ≡ m.0 = one_place known (items_differ known numbers.items.ascend) k.0 m.0 (end p) at_k at_m in
        h.over.once i j k.0 l k.1 (m.1 ∙ ap Some (sym same))

  -- ---- all states
  module _ (states : List (State Bits)) (list : List NumberedState) (listed : AreListedByNumber (rules_of g) start n states list) where
    pub record IsStateAt (s : ℕ) (state : NumberedState) : Type 0 where
      pub old : State Bits
      pub at : slice_get states s ≡ Some old
      pub is : IsListedState (rules_of g) start n s old state

    pub state_at : (s : ℕ) (state : NumberedState) → slice_get list s ≡ Some state → IsStateAt s state
    state_at s state at =
        let l = slice_get_within list s state at in
        let c = listed.counted in
        let f = filled states s (omega (arith, l, c)) in
        record { old = f.0; at = f.1; is = listed.each s f.0 state f.1 at }

    pub number_at : (s : ℕ) (old : State Bits) → slice_get states s ≡ Some old → (state : NumberedState) × (slice_get list s ≡ Some state)
    number_at s old at =
        let l = slice_get_within states s old at in
        let c = listed.counted in
        let f = filled list s (omega (arith, l, c)) in
        (f.0, f.1)

    -- an edge by number is an edge of the state
    pub edge_of : (s : ℕ) (state : NumberedState) (x m : ℕ) → slice_get list s ≡ Some state → Contains state.edges.items (x, m) → (y : Symbol) × (leads (places_in states s) y ≡ Some m)
    edge_of s state x m at c =
        let o = state_at s state at in
        let y = filled n.symbols.items x (o.is.over.numbered.named x m c) in
        (y.0, subst (λ (q : Option (State Bits)). leads (contents_at (λ (lookahead : Bits) (t : Token). true) q) y.0 ≡ Some m) (sym o.at) ((o.is.over.numbered.edges x m y.0 y.1).0 c))

    edge_from : (s x m : ℕ) → Contains (transitions_at list s) (x, m) → (y : Symbol) × (leads (places_in states s) y ≡ Some m)
    edge_from s x m c = go (slice_get list s) refl c
      where
        go : (o : Option NumberedState) → slice_get list s ≡ o → Contains (listed_transitions o) (x, m) → (y : Symbol) × (leads (places_in states s) y ≡ Some m)
        go None at d = absurd (Contains-none (x, m) d)
        go (Some state) at d = edge_of s state x m at d

    reached_of : {s : ℕ} → IsReachedByNumber list s → IsReached (places_in states) s
    reached_of at_first = at_zero
    reached_of (over_transition s x m r c) = let e = edge_from s x m c in over_edge m e.0 (reached_of r) e.1

    pub all_reached : AreReachedByNumber list → AreAllReached (places_in states) (length states)
    all_reached reached s l = let c = listed.counted in reached_of (reached s (omega (arith, l, c)))

    -- the dotted productions of the states are of the grammar
    pub of_grammar : AreItemsOfGrammar (productions g) (places_in states)
    of_grammar s q dot c = go (slice_get states s) refl c
      where
        go : (o : Option (State Bits)) → slice_get states s ≡ o → Contains (contents_at (λ (lookahead : Bits) (t : Token). true) o).items (q, dot) → Contains (productions g) q × (dot ≤ length q.symbols)
        go None at d = absurd (Contains-none (q, dot) d)
        go (Some old) at d =
            let f = number_at s old at in
            let k = listed_as s old f.0 (listed.each s old f.0 at f.1) q dot d in
            numbers.items.each (with_dot q dot) (contains_at known (with_dot q dot) k.number k.at)

    -- the list has the states by number
    pub numbered_states : AreNumberedStates n states list
    numbered_states = Listed-numbered (rules_of g) start n states list listed

    -- ---- the conditions on each state
    module _ (coherent : AreCoherent states) (free : AreAllConflictFree g.terminals states) (lead : AllItemsLeadOn n list) (reached : AreReachedByNumber list) (none : IsTarget states 0 → ⊥) where
      abbrev pub sets : List (BTreeSet (Dotted Nil))
      sets = map keys_of_state states

      abbrev pub targets : List ℕ
      targets = positive (length states - 1)

      item_there : (m k : ℕ) (p : Production) (dot : ℕ) → slice_get known k ≡ Some (with_dot p dot) → Contains (item_numbers_at list m) k → IsListed sets m (with_dot p dot)
      item_there m k p dot at c = go (slice_get list m) refl c
        where
          go : (o : Option NumberedState) → slice_get list m ≡ o → Contains (listed_items o) k → IsListed sets m (with_dot p dot)
          go None at_m d = absurd (Contains-none k d)
          go (Some state) at_m d =
              let o = state_at m state at_m in
              record {
                set = keys_of_state o.old;
                there = slice_get-map keys_of_state states m ∙ ap (option_map keys_of_state) o.at;
                has = (keys_list o.old (with_dot p dot)).1 (as_listed m o.old state o.is p dot k at d);
              }

      right_item : (s : ℕ) (old : State Bits) → slice_get states s ≡ Some old → (i : Dotted Bits) → Contains old.items.vec.items i → IsRightItem sets old (productions_of_reductions old.reductions.items) i
      right_item s old at i c =
          let f = number_at s old at in
          let is = listed.each s old f.0 at f.1 in
          let k = number_of_item s old f.0 is i c in
          record {
            shifts = λ x there.
                let b = behind_some (rules_of g) n numbers k.number (with_dot i.production i.index) x k.at there in
                let o : LeadsByNumber list f.0.edges.items k.number b.number = lead s f.0 f.1 k.number k.among b.number b.at in
                let within = slice_get_within i.production.symbols i.index x there in
                record {
                  to = o.target;
                  edge = sym (lead_target (λ (lookahead : Bits) (t : Token). true) old x) ∙ (is.over.numbered.edges b.number o.target x b.symbol).0 o.edge;
                  moved = item_there o.target (k.number + 1) i.production (i.index + 1) (numbers.next k.number (with_dot i.production i.index) k.at within) o.moved;
                };
            finished = finished_reduced s old f.0 is i c;
          }

      pub right_states : AreRightStates g start sets targets states
      right_states s old here at at_here =
          let f = number_at s old at in
          let is = listed.each s old f.0 at f.1 in
          let there = some_of_map keys_of_state (slice_get states s) here (sym (slice_get-map keys_of_state states s) ∙ at_here) in
          let same : keys_of_state old ≡ here = ap keys_of_state (same_some old there.0 (sym at ∙ there.1)) ∙ there.2 in
          subst (λ (set : BTreeSet (Dotted Nil)). IsRightState g start sets targets s set.keys old) same
          (record {
            first = first_closed s old f.0 is;
            target = λ c. moved_closed s old f.0 is (from_positive (length states - 1) s c).0;
            items = right_item s old at;
            once = reduced_once s old f.0 is;
            free = free s old at;
          })

      is_target : {m : ℕ} → IsReachedByNumber list m → 0 < m → IsTarget states m
      is_target at_first l = absurd (omega (arith, l))
      is_target (over_transition s x m r c) l = go (slice_get list s) refl c
        where
          go : (o : Option NumberedState) → slice_get list s ≡ o → Contains (listed_transitions o) (x, m) → IsTarget states m
          go None at d = absurd (Contains-none (x, m) d)
          go (Some state) at d =
              let o = state_at s state at in
              let y = filled n.symbols.items x (o.is.over.numbered.named x m d) in
              record {
                from = o.old;
                place = s;
                there = o.at;
                leads = (y.0, sym (lead_target (λ (lookahead : Bits) (t : Token). true) o.old y.0) ∙ (o.is.over.numbered.edges x m y.0 y.1).0 d);
              }

      target_within : (m : ℕ) → IsTarget states m → m < length states
      target_within m t =
          let holds : Bits → Token → Bool = λ lookahead u. true in
          let say = lead_as_items_say holds states coherent in
          let edge : leads (places_in states t.place) (t.leads).0 ≡ Some m = subst (λ (q : Option (State Bits)). leads (contents_at holds q) (t.leads).0 ≡ Some m) (sym t.there) (lead_target holds t.from (t.leads).0 ∙ (t.leads).1) in
          (say.edges t.place m (t.leads).0 edge).within

      pub are_targets : (m : ℕ) → Contains targets m ↔ IsTarget states m
      are_targets m = (
        λ c.
            let r = from_positive (length states - 1) m c in
            let counted = listed.counted in
            is_target (reached m (omega (arith, r.0, r.1, counted))) r.0,
        λ t.
            let l = target_within m t in
            in_positive (length states - 1) m (above m t) (omega (arith, l)),
      )
        where
          above : (m : ℕ) → IsTarget states m → 0 < m
          above zero t = absurd (none t)
          above (suc m) t = omega arith
