-- The steps by which states are listed by number.
use Rattle.std.proofs.Common.{◌≡◌, ◌∙◌, inl, inr, ℕ, Bool, true, false, List, [], ◌∷◌, ◌++◌, length, get_or, map, replicate, set, refl, sym, ap, subst, arith, Option, Some, None, ◌<◌}
use Rattle.std.specs.Prelude.{◌↔◌, option_map, slice_get, Contains, IfSome}
use Rattle.std.specs.Borrow.{Bor}
use Rattle.std.proofs.lemmas.Bool.{cases_eq, false≢true}
use Rattle.std.proofs.lemmas.List.{get_or-replicate, get_or-set_same, length-map, length-replicate, length-set}
use Rattle.std.proofs.lemmas.List.Elements.{Contains-append_left, Contains-push, Contains-push_cases}
use Rattle.std.proofs.lemmas.Option.{get_or_from_slice_get, none-some, slice_get-get_or, slice_get-map, slice_get_within}
use Rattle.lalrpop_base.specs.Words.{Bits, Dotted, InClosure, InKernel, Rules, contents_at, AreNumbered, items_by}
use Rattle.lalrpop_check.proofs.Types.{Nil, NonterminalString, Production, State, Token}
use Rattle.lalrpop_collections.proofs.theory.lists.Zipped.{push_both, push_counted}
use Rattle.lalrpop_collections.proofs.theory.lists.Places.{filled, put_other, same_some}
use Rattle.lalrpop_check.specs.check.ByNumber.{AreListedAtPlaces, AreListedByNumber, AreMarkedReached, HoldSets, HoldsUnion, IsListedState, ListsClosure, IsReachedByNumber, MarksTarget, MarksTargets, over_transition}
use Rattle.lalrpop_follow_sets.specs.follow_sets.FollowWalks.{AreUnions}
use Rattle.lalrpop_construction.specs.states.NumberedStates.{AreItemsAt, AreNumberedStates, IsNumberedState, listed_transitions, item_number}
use Rattle.lalrpop_numbers.specs.declared.numbers.numbered.Numbered.{Numbered}
use Rattle.lalrpop_numbers.specs.declared.numbers.Numbers.{Numbers}
use Rattle.lalrpop_construction.specs.declared.construction.numbered_state.NumberedState.{NumberedState}
use Rattle.lalrpop_follow_sets.proofs.theory.follow_sets.FollowBits.{held_at}
use Rattle.lalrpop_construction.proofs.theory.states.ItemNumbers.{items_at_by, same_dots}

-- if a fact about a value implies another, so it is with an option
pub if_some : {X : Type 0} (o : Option X) (P Q : X → Type 0) → ((x : X) → P x → Q x) → IfSome o P → IfSome o Q
if_some None P Q weaker h = h
if_some (Some x) P Q weaker h = weaker x h

-- ---- states that are listed
pub Listed-more : (g : Rules) (start : NonterminalString) (n : Numbers) (done : List (State Bits)) (old : State Bits) (list : List NumberedState) (state : NumberedState) → AreListedByNumber g start n done list → IsListedState g start n (length list) old state → AreListedByNumber g start n (done ++ old ∷ []) (list ++ state ∷ [])
Listed-more g start n done old list state before is = record {
  counted = push_counted done old list state before.counted;
  each = λ s p q at_p at_q. elim (push_both done old list state before.counted s p q at_p at_q) [
    | inl was ↦ before.each s p q was.0 was.1
    | inr new ↦ subst (λ (m : ℕ). IsListedState g start n m p q) (before.counted ∙ sym new.0) (subst (λ (x : NumberedState). IsListedState g start n (length list) p x) new.2 (subst (λ (x : State Bits). IsListedState g start n (length list) x state) new.1 is))
  ];
}

-- a state lists a closure if its items have the numbers of the closure
pub Listed-closure : (g : Rules) (known : List (Dotted Nil)) (kernel : List (Dotted Nil)) (list : List (Numbered Nil)) (old : State Bits) → AreNumbered known list → ((p : Production) (dot : ℕ) → InKernel (items_by known list) p dot ↔ InClosure g.productions (InKernel kernel) p dot) →
    AreItemsAt known (map item_number list) old.items.vec.items → ListsClosure g kernel old
Listed-closure g known kernel list old within exact at p dot =
    let own = items_at_by known list within in (
      λ c. (exact p dot).0 (same_dots known (map item_number list) old.items.vec.items (items_by known list) at own p dot c),
      λ h. same_dots known (map item_number list) (items_by known list) old.items.vec.items own at p dot ((exact p dot).1 h),
    )

-- the listed states are the states by number
pub Listed-numbered : (g : Rules) (start : NonterminalString) (n : Numbers) (states : List (State Bits)) (list : List NumberedState) → AreListedByNumber g start n states list → AreNumberedStates n states list
Listed-numbered g start n states list listed = record {
  counted = listed.counted;
  each = λ s state at.
      let l = slice_get_within list s state at in
      let c = listed.counted in
      let f = filled states s (omega (arith, l, c)) in
      subst (λ (q : Option (State Bits)). IsNumberedState n (contents_at (λ (lookahead : Bits) (t : Token). true) q) state) (sym f.1) (listed.each s f.0 state f.1 at).over.numbered;
  reduced = λ s old state at_old at. (listed.each s old state at_old at).over.reduced;
}

-- ---- states that are listed at their places
put_here : {X : Type 0} (xs : List X) (i : ℕ) (y : X) → i < length xs → slice_get (set xs i y) i ≡ Some y
put_here xs i y l = let e = length-set xs i y in slice_get-get_or (set xs i y) i y (omega (arith, e, l)) ∙ ap Some (get_or-set_same xs i y y l)

-- no state is listed yet
pub Places-none : (g : Rules) (start : NonterminalString) (n : Numbers) (states : List (State Bits)) (list : List (Option NumberedState)) → list ≡ replicate (length states) None → AreListedAtPlaces g start n states list
Places-none g start n states list none =
    let counted : length list ≡ length states = ap length none ∙ length-replicate (length states) None in
    record {
      counted = counted;
      each = λ s old state at_old at.
          let l = slice_get_within list s (Some state) at in
          let unset : get_or list s (Some state) ≡ None = ap (λ (os : List (Option NumberedState)). get_or os s (Some state)) none ∙ get_or-replicate (length states) s None (Some state) (omega (arith, l, counted)) in
          absurd (none-some state (sym unset ∙ get_or_from_slice_get list s (Some state) (Some state) at));
    }

-- one state more
pub Places-more : (g : Rules) (start : NonterminalString) (n : Numbers) (states : List (State Bits)) (list more : List (Option NumberedState)) (place : ℕ) (old : State Bits) (state : NumberedState) → slice_get states place ≡ Some old → more ≡ set list place (Some state) → AreListedAtPlaces g start n states list → IsListedState g start n place old state → AreListedAtPlaces g start n states more
Places-more g start n states list more place old state at_old put before is = record {
  counted = ap length put ∙ length-set list place (Some state) ∙ before.counted;
  each = λ s p q at_p at_q. elim (cases_eq s place) [
    | inl e ↦
        let l = slice_get_within states place old at_old in
        let counted = before.counted in
        let here : slice_get more place ≡ Some (Some state) = ap (λ (os : List (Option NumberedState)). slice_get os place) put ∙ put_here list place (Some state) (omega (arith, l, counted)) in
        let there : slice_get more place ≡ Some (Some q) = ap (λ (m : ℕ). slice_get more m) (sym e) ∙ at_q in
        let same : state ≡ q = same_some _ _ (same_some _ _ (sym here ∙ there)) in
        let own : old ≡ p = same_some _ _ (sym at_old ∙ ap (λ (m : ℕ). slice_get states m) (sym e) ∙ at_p) in
        subst (λ (m : ℕ). IsListedState g start n m p q) (sym e) (subst (λ (x : NumberedState). IsListedState g start n place p x) same (subst (λ (x : State Bits). IsListedState g start n place x state) own is))
    | inr apart ↦ before.each s p q at_p (sym (put_other list place s (Some state) apart) ∙ ap (λ (os : List (Option NumberedState)). slice_get os s) (sym put) ∙ at_q)
  ];
}

-- all states are listed
pub Places-all : (g : Rules) (start : NonterminalString) (n : Numbers) (states : List (State Bits)) (places : List (Option NumberedState)) (list : List NumberedState) → places ≡ map Some list → AreListedAtPlaces g start n states places → AreListedByNumber g start n states list
Places-all g start n states places list all placed = record {
  counted = sym (length-map list Some) ∙ sym (ap length all) ∙ placed.counted;
  each = λ s old state at_old at. placed.each s old state at_old (ap (λ (os : List (Option NumberedState)). slice_get os s) all ∙ slice_get-map Some list s ∙ ap (option_map Some) at);
}

-- ---- marked targets
pub Targets-none : (marks : List Bool) (found : List ℕ) → MarksTargets [] marks found marks found
Targets-none marks found = record { counted = refl; from = λ m at. inl at; marked = λ h. h }

-- the target is marked
pub Target-marked : (target : ℕ) (old : List Bool) (found : List ℕ) (new : List Bool) (more : List ℕ) → target < length old → new ≡ set old target true → more ≡ found ++ target ∷ [] → MarksTarget target old found new more
Target-marked target old found new more within marks one = record {
  counted = ap length marks ∙ length-set old target true;
  from = λ m at. elim (cases_eq m target) [
    | inl e ↦ inr e
    | inr apart ↦ inl (sym (put_other old target m true apart) ∙ ap (λ (bs : List Bool). slice_get bs m) (sym marks) ∙ at)
  ];
  marked = λ before m met.
      let here : slice_get new target ≡ Some true = ap (λ (bs : List Bool). slice_get bs target) marks ∙ put_here old target true within in
      elim (cases_eq m target) [
        | inl e ↦ ap (λ (k : ℕ). slice_get new k) e ∙ here
        | inr apart ↦ elim (Contains-push_cases found target m (subst (λ (list : List ℕ). Contains list m) one met)) [
          | inl was ↦ ap (λ (bs : List Bool). slice_get bs m) marks ∙ put_other old target m true apart ∙ before m was
          | inr same ↦ absurd (apart (sym same))
        ]
      ];
}

-- nothing is marked
pub Target-none : (target : ℕ) (old : List Bool) (found : List ℕ) → MarksTarget target old found old found
Target-none target old found = record { counted = refl; from = λ m at. inl at; marked = λ h. h }

-- one target more
pub Targets-more : (done : List (ℕ × ℕ)) (edge : ℕ × ℕ) (base old new : List Bool) (first found more : List ℕ) → MarksTargets done base first old found → MarksTarget edge.1 old found new more → MarksTargets (done ++ edge ∷ []) base first new more
Targets-more done edge base old new first found more before marks = record {
  counted = marks.counted ∙ before.counted;
  from = λ m at. elim (marks.from m at) [
    | inl was ↦ elim (before.from m was) [
      | inl own ↦ inl own
      | inr t ↦ inr (t.0, Contains-append_left done (edge ∷ []) (t.0, m) t.1)
    ]
    | inr e ↦ inr (edge.0, subst (λ (k : ℕ). Contains (done ++ edge ∷ []) (edge.0, k)) (sym e) (Contains-push done edge))
  ];
  marked = λ h. marks.marked (before.marked h);
}

-- if a state is reached, the states that its edges mark are reached
pub Reached-more : (list : List NumberedState) (s : ℕ) (state : NumberedState) (old new : List Bool) (found more : List ℕ) → slice_get list s ≡ Some state → IsReachedByNumber list s → AreMarkedReached list old → MarksTargets state.edges.items old found new more → AreMarkedReached list new
Reached-more list s state old new found more at reached before marks m marked = elim (marks.from m marked) [
  | inl was ↦ before m was
  | inr t ↦ over_transition s t.0 m reached (subst (λ (o : Option NumberedState). Contains (listed_transitions o) (t.0, m)) (sym at) t.1)
]

-- marks that are all false are as many as the count says
pub Marks-counted : (marks : List Bool) (count : ℕ) → marks ≡ replicate count false → length marks ≡ count
Marks-counted marks count none = ap length none ∙ length-replicate count false

pub Marks-none : (list : List NumberedState) (marks : List Bool) (count : ℕ) → marks ≡ replicate count false → AreMarkedReached list marks
Marks-none list marks count none m at =
    let l = slice_get_within marks m true at in
    let counted = Marks-counted marks count none in
    let unset : get_or marks m true ≡ false = ap (λ (bs : List Bool). get_or bs m true) none ∙ get_or-replicate count m false true (omega (arith, l, counted)) in
    absurd (false≢true (sym unset ∙ get_or_from_slice_get marks m true true at))

-- ---- reductions that hold unions
pub Union-held : (follow : List Bits) (entries : List (ℕ × ℕ)) (numbers : List ℕ) (sets : List Bits) (reductions : List (Bits × Bor Production)) → AreUnions follow entries numbers sets → HoldSets reductions sets → (j k : ℕ) (r : Bits × Bor Production) → slice_get reductions j ≡ Some r → slice_get numbers j ≡ Some k → HoldsUnion follow entries k r.0
Union-held follow entries numbers sets reductions unions holds j k r at_r at_k =
    let counted = unions.counted in
    let l = slice_get_within numbers j k at_k in
    let f = filled sets j (omega (arith, l, counted)) in
    record {
      set = f.0;
      union = λ bit. (λ h. (unions.each j k bit at_k).0 ((held_at sets j bit f.0 f.1).1 h), λ u. (held_at sets j bit f.0 f.1).0 ((unions.each j k bit at_k).1 u));
      within = λ bit h. holds j bit r f.0 at_r f.1 h;
    }
