-- States that are resolved while some are copied stay LR(0) states and copies of these.
use Rattle.std.proofs.Common.{◌≡◌, ℕ, zero, suc, ◌+◌, ◌<◌, ◌≤◌, inl, inr, Bool, true, false, List, [], ◌∷◌, ◌++◌, map, get_or, length, length-append, append_assoc, Some, take, refl, slice_set, sym, ap, subst, ◌∙◌, arith, Result, Ok, Err, IfOk}
use Rattle.std.specs.Prelude.{slice_get, unwrap_or, option_map}
use Rattle.std.specs.Borrow.{Bor}
use Rattle.std.specs.BTreeMap.{BTreeMap}
use Rattle.std.specs.declared.alloc.Global.{Global}
use Rattle.std.specs.declared.vec.Vec.{Vec}
use Rattle.std.proofs.lemmas.Bool.{cases_eq, cases_lt}
use Rattle.std.proofs.lemmas.List.{length-map, map-append, take_more}
use Rattle.std.proofs.lemmas.Option.{slice_get_within, slice_get_past, slice_get-get_or, slice_get-map}
use Rattle.lalrpop_base.specs.Words.{Bits, AreCoherent, Rules, number_in, retargeted, retargeted_all}
use Rattle.lalrpop_lanes.specs.Words.{AreAmong}
use Rattle.lalrpop_states.specs.declared.lr1_core.state.Items.{Items}
use Rattle.lalrpop_lane_states.proofs.Types.{Action, NonterminalString, State, StateIndex, TerminalString}
use Rattle.lalrpop_lane_states.specs.Words.{Advances, AreActions, AreLr0Copies, IsCopied, IsAttempted, IsMerging, IsPatchable, IsResolving, IsStateStep}
use Rattle.lalrpop_state_graph.specs.Words.{AreCopies, IsCopyOf}
use Rattle.lalrpop_lane_states.specs.Words.{asked_actions}
use Rattle.lalrpop_state_graph.specs.Words.{edges, index, IsGraphOf}
use Rattle.lalrpop_state_graph.specs.graphs.GraphCopies.{FollowsCopies}
use Rattle.lalrpop_lane_states.specs.declared.lane_table.construct.copying.Copying.{Copying}
use Rattle.lalrpop_lane_states.specs.declared.lane_table.construct.merge.Merge.{Merge}
use Rattle.lalrpop_lanes.specs.declared.lane_table.table.LaneTable.{LaneTable}
use Rattle.lalrpop_lane_states.proofs.theory.lanes.LaneAsked.{asked_some}
use Rattle.lalrpop_lane_states.proofs.theory.merges.LaneCopies.{copies_own, copies_weaker}
use Rattle.lalrpop_state_graph.proofs.theory.graphs.GraphCopies.{number_at}
use Rattle.lalrpop_lane_states.proofs.theory.lane_states.LaneLoop.{graph_on, set_step, step_places}
use Rattle.lalrpop_lane_states.proofs.theory.lane_states.LaneResolved.{applied_same}
use Rattle.lalrpop_collections.proofs.theory.lists.Places.{filled, same_some, slice_get-append_behind}
use Rattle.lalrpop_collections.proofs.theory.lists.Lists.{place_contains}

-- ---- copies of copies
module _ (handed : List (State Bits)) (first second : List ℕ) (middle states : List (State Bits)) (a : AreCopies false handed first middle) (b : AreCopies false middle second states) where
  abbrev both : List ℕ
  both = map (number_in first) second

  counted_first : length middle ≤ length second
  counted_first = elim (cases_lt (length second) (length middle)) [
    | inl l ↦ absurd (let w = slice_get_within second (length second) (length second) (b.own (length second) l) in omega arith)
    | inr past ↦ past
  ]

  number_both : (n : ℕ) → number_in both n ≡ number_in first (number_in second n)
  number_both n = elim (cases_lt n (length second)) [
    | inl l ↦
        let x = filled second n l in
        ap (λ o. unwrap_or o n) (slice_get-map (number_in first) second n ∙ ap (option_map (number_in first)) x.1)
        ∙ sym (ap (number_in first) (number_at second n x.0 x.1))
    | inr past ↦
        ap (λ o. unwrap_or o n) (slice_get-map (number_in first) second n ∙ ap (option_map (number_in first)) (slice_get_past second n past))
        ∙ sym (ap (λ o. unwrap_or o n) (slice_get_past first n (let c = a.counted in let k = counted_first in omega arith)))
        ∙ sym (ap (number_in first) (ap (λ o. unwrap_or o n) (slice_get_past second n past)))
  ]

  targets_both : {K : Type 0} (es : List (K × StateIndex)) → retargeted_all (number_in both) es ≡ retargeted_all (number_in first) (retargeted_all (number_in second) es)
  targets_both [] = refl
  targets_both {K} (e ∷ es) =
      ap (λ (n : ℕ). (e.0, index n) ∷ retargeted_all (number_in both) es) (number_both e.1.0)
      ∙ ap (λ xs. (e.0, retargeted (number_in first) (retargeted (number_in second) e.1)) ∷ xs) (targets_both es)

  copy_both : (n : ℕ) (state : State Bits) → slice_get states n ≡ Some state → (before : State Bits) × (slice_get handed (number_in both n) ≡ Some before) × IsCopyOf false (number_in both) n before state
  copy_both n state at =
      let mid = b.each n state at in
      let old = a.each (number_in second n) mid.0 mid.1 in (
        old.0,
        ap (slice_get handed) (number_both n) ∙ old.1,
        record {
          numbered = mid.2.numbered;
          items = mid.2.items ∙ old.2.items;
          shifts = targets_both state.shifts.entries ∙ ap (retargeted_all (number_in first)) mid.2.shifts ∙ old.2.shifts;
          gotos = targets_both state.gotos.entries ∙ ap (retargeted_all (number_in first)) mid.2.gotos ∙ old.2.gotos;
          reductions = mid.2.reductions ∙ old.2.reductions;
        },
      )

  pub copies_of_copies : AreCopies false handed both states
  copies_of_copies = record {
    coherent = a.coherent;
    counted = length-map second (number_in first) ∙ b.counted;
    own = λ n l.
        let f = a.own n l in
        let within = slice_get_within first n n f in
        let s = b.own n (let c = a.counted in omega arith) in
        slice_get-map (number_in first) second n ∙ ap (option_map (number_in first)) s ∙ ap Some (number_at first n n f);
    each = copy_both;
  }

-- ---- nothing is copied
-- `count` numbers, counted up from n
abbrev pub own_numbers_from : ℕ → ℕ → List ℕ
own_numbers_from n zero = []
own_numbers_from n (suc count) = n ∷ own_numbers_from (suc n) count

own_at : (n count k : ℕ) → k < count → slice_get (own_numbers_from n count) k ≡ Some (n + k)
own_at n zero k l = absurd (omega arith)
own_at n (suc count) zero l = ap Some (omega arith)
own_at n (suc count) (suc k) l = own_at (suc n) count k (omega arith) ∙ ap Some (omega arith)

own_counted : (n count : ℕ) → length (own_numbers_from n count) ≡ count
own_counted n zero = refl
own_counted n (suc count) = ap suc (own_counted (suc n) count)

-- the numbers of the states, in order: each state is its own original
abbrev pub own_numbers : List (State Bits) → List ℕ
own_numbers states = own_numbers_from 0 (length states)

pub no_copies : (states : List (State Bits)) → AreCoherent states → AreCopies false states (own_numbers states) states
no_copies states coherent =
    copies_weaker true states (own_numbers states) states (copies_own (own_numbers states) states coherent (own_counted 0 (length states)) (λ n l. own_at 0 (length states) n l ∙ ap Some (let e : 0 + n ≡ n = omega arith in e)))

-- states are copies of themselves, each with its own number
pub own_copies : (states : List (State Bits)) (originals : List ℕ) → AreCoherent states → length originals ≡ length states → ((n : ℕ) → n < length states → slice_get originals n ≡ Some n) → AreCopies false states originals states
own_copies states originals coherent counted own = copies_weaker true states originals states (copies_own originals states coherent counted own)

-- a list of numbers, as the numbers at its own places
own_from : (front xs : List ℕ) (n : ℕ) → n ≡ length front → map (number_in (front ++ xs)) (own_numbers_from n (length xs)) ≡ xs
own_from front [] n e = refl
own_from front (x ∷ xs) n e =
    let all : List ℕ = front ++ x ∷ xs in
    let at : slice_get all n ≡ Some x = ap (slice_get all) (let k : n ≡ length front + 0 = omega arith in k) ∙ slice_get-append_behind front (x ∷ xs) 0 in
    let more : (front ++ x ∷ []) ++ xs ≡ all = append_assoc front (x ∷ []) xs in
    let last : suc n ≡ length (front ++ x ∷ []) = let l = length-append front (x ∷ []) in omega arith in
    ap (λ (y : ℕ). y ∷ map (number_in all) (own_numbers_from (suc n) (length xs))) (number_at all n x at)
    ∙ ap (λ (ys : List ℕ). x ∷ ys) (ap (λ (zs : List ℕ). map (number_in zs) (own_numbers_from (suc n) (length xs))) (sym more) ∙ own_from (front ++ x ∷ []) xs (suc n) last)

pub copied_none : (copying : Copying) → AreCoherent copying.states.items → length copying.originals.items ≡ length copying.states.items → IsGraphOf (edges copying.states.items) copying.graph → IsCopied copying copying
copied_none copying coherent named graph = record {
  originals = own_numbers copying.states.items;
  each = no_copies copying.states.items coherent;
  first = sym (ap (λ (n : ℕ). map (number_in copying.originals.items) (own_numbers_from 0 n)) (sym named) ∙ own_from [] copying.originals.items 0 refl);
  counted = refl;
  graph = graph;
}

-- the number of each original is that of a state that was handed in
pub originals_within : (exact : Bool) (handed : List (State Bits)) (originals : List ℕ) (states : List (State Bits)) → AreCopies exact handed originals states → (n o : ℕ) → slice_get originals n ≡ Some o → o < length handed
originals_within exact handed originals states c n o at =
    let x = filled states n (let l = slice_get_within originals n o at in let k = c.counted in omega arith) in
    let f = c.each n x.0 x.1 in
    slice_get_within handed o f.0 (ap (slice_get handed) (sym (number_at originals n o at)) ∙ f.1)

-- the originals of originals, with that of one original more
pub originals_more : (first originals : List ℕ) (k o p : ℕ) (list next : List ℕ) → k < length originals → o ≡ get_or originals k 0 → o < length first → p ≡ get_or first o 0 → list ≡ map (number_in first) (take k originals) → next ≡ list ++ p ∷ [] → next ≡ map (number_in first) (take (k + 1) originals)
originals_more first originals k o p list next l is within gives before pushed =
    let more : take (k + 1) originals ≡ take k originals ++ o ∷ [] = take_more originals k 0 l ∙ ap (λ (x : ℕ). take k originals ++ x ∷ []) (sym is) in
    let here : number_in first o ≡ p = number_at first o (get_or first o 0) (slice_get-get_or first o 0 within) ∙ sym gives in
    pushed ∙ ap (λ (xs : List ℕ). xs ++ p ∷ []) before
    ∙ sym (ap (map (number_in first)) more ∙ map-append (number_in first) (take k originals) (o ∷ []) ∙ ap (λ (x : ℕ). map (number_in first) (take k originals) ++ x ∷ []) here)

-- ---- a step of one state
-- copies of states stay copies if one of them takes other tokens
pub copies_step : (handed : List (State Bits)) (originals : List ℕ) (old new : List (State Bits)) (n : ℕ) → AreCopies false handed originals old → IsStateStep n old new → AreCopies false handed originals new
copies_step handed originals old new n c t = record {
  coherent = c.coherent;
  counted = c.counted ∙ sym t.counted;
  own = c.own;
  each = λ k state there. elim (cases_eq k n) [
    | inl here ↦
        let o = c.each n t.before t.was in
        let same : t.after ≡ state = same_some t.after state (sym t.is ∙ ap (slice_get new) (sym here) ∙ there) in
        let copy : IsCopyOf false (number_in originals) n o.0 t.after = record {
          numbered = ap (λ (i : StateIndex). i.0) (t.same).index ∙ o.2.numbered;
          items = ap (λ (is : Items Bits). is.vec.items) t.items ∙ o.2.items;
          shifts = ap (λ (es : BTreeMap TerminalString StateIndex). retargeted_all (number_in originals) es.entries) (t.same).shifts ∙ o.2.shifts;
          gotos = ap (λ (es : BTreeMap NonterminalString StateIndex). retargeted_all (number_in originals) es.entries) (t.same).gotos ∙ o.2.gotos;
          reductions = (t.same).reduced ∙ o.2.reductions;
        } in
        (o.0, ap (λ m. slice_get handed (number_in originals m)) here ∙ o.1, subst (λ (s : State Bits). IsCopyOf false (number_in originals) k o.0 s) same (subst (λ m. IsCopyOf false (number_in originals) m o.0 t.after) (sym here) copy))
    | inr other ↦ c.each k state (sym (t.others k other) ∙ there)
  ];
}

-- ---- states that are resolved stay LR(0) states and copies
module _ (g : Rules) (start : NonterminalString) (copies : ℕ) where
  module _ (handed : List (State Bits)) where
    -- copies of such states are such states
    pub resolving_copied : (old new : Copying) → IsResolving g start copies handed old → IsCopied old new → IsResolving g start copies handed new
    resolving_copied old new r c = record {
      made = r.made;
      each = subst (λ (os : List ℕ). AreCopies false handed os new.states.items) (sym c.first) (copies_of_copies handed old.originals.items c.originals old.states.items new.states.items r.each c.each);
      counted = c.counted ∙ r.counted;
      graph = c.graph;
    }

    -- one state took the columns of its lanes
    pub resolving_taken : (old new : Copying) → IsResolving g start copies handed old → new.graph ≡ old.graph → new.copies_left ≡ old.copies_left → new.originals ≡ old.originals → (n : ℕ) (before after : State Bits) → slice_get old.states.items n ≡ Some before → new.states.items ≡ slice_set old.states.items n after → (actions : List Action) (table : LaneTable) → IsAttempted actions table before after → IsResolving g start copies handed new
    resolving_taken old new r graph left same_originals n before after at set actions table a =
        let place = applied_same actions a.columns before after a.applied in
        let step = set_step n old.states.items new.states.items before after at set place a.applied.items in
        record {
          made = r.made;
          each = subst (λ (os : Vec ℕ Global). AreCopies false handed os.items new.states.items) (sym same_originals) (copies_step handed old.originals.items old.states.items new.states.items n r.each step);
          counted = let c = r.counted in let k = step.counted in omega arith;
          graph = subst (IsGraphOf (edges new.states.items)) (sym graph) (graph_on old.states.items new.states.items old.graph (step_places n old.states.items new.states.items step) r.graph);
        }

    -- all states stayed
    pub resolving_same : (old new : Copying) → IsResolving g start copies handed old → new.graph ≡ old.graph → new.copies_left ≡ old.copies_left → new.originals ≡ old.originals → new.states.items ≡ old.states.items → IsResolving g start copies handed new
    resolving_same old new r graph left same_originals same = record {
      made = r.made;
      each = subst (λ (os : Vec ℕ Global). AreCopies false handed os.items new.states.items) (sym same_originals) (subst (AreCopies false handed old.originals.items) (sym same) r.each);
      counted = let c = r.counted in let k = ap length same in omega arith;
      graph = subst (λ (xs : List (State Bits)). IsGraphOf (edges xs) new.graph) (sym same) (subst (IsGraphOf (edges old.states.items)) (sym graph) r.graph);
    }

    pub resolving_copies : (copying : Copying) → IsResolving g start copies handed copying → AreLr0Copies g start copies copying.states.items
    resolving_copies copying r = record {
      handed = handed;
      made = r.made;
      originals = copying.originals.items;
      each = r.each;
      counted = let c = r.counted in omega arith;
    }

  -- a merge of states that all stayed before
  pub copied_answers : {E : Type 0} (old moved : Copying) → moved.graph ≡ old.graph → moved.copies_left ≡ old.copies_left → moved.originals ≡ old.originals → moved.states.items ≡ old.states.items →
      (r : Result (Copying × Bool) E) → IfOk r (λ answer. IsCopied moved answer.0) → IfOk r (λ answer. (handed : List (State Bits)) → IsResolving g start copies handed old → IsResolving g start copies handed answer.0)
  copied_answers old moved graph left originals same (Ok answer) c = λ handed before. resolving_copied handed moved answer.0 (resolving_same handed old moved before graph left originals same) c
  copied_answers old moved graph left originals same (Err e) c = tt

-- ---- the reductions of the inconsistent state
-- the actions include these reductions after the walks as before, since copies have the same
-- reductions
pub patchable_on : (actions : List Action) (old new : Merge) → AreCopies true old.states.items old.originals.items old.states.items → IsMerging old → Advances old new → IsPatchable actions old → IsPatchable actions new
patchable_on actions old new begun ready on p = record {
  counted = ap (λ (t : Bor LaneTable). t.now.conflicts) on.table ∙ p.counted;
  among = λ state at.
      let n = old.inconsistent_state.0 in
      let own = on.originals n n (ready.rows old.inconsistent_state ready.start) in
      let c = (on.copies true old.states.items begun).each n state (subst (λ (i : StateIndex). slice_get new.states.items i.0 ≡ Some state) on.start at) in
      let was : slice_get old.states.items n ≡ Some c.0 = ap (slice_get old.states.items) (sym (number_at new.originals.items n n own)) ∙ c.1 in
      λ k r at_k. p.among c.0 was k r (ap (λ rs. slice_get rs k) (sym c.2.reductions) ∙ at_k);
}

-- the actions include these reductions before the walks, if they include those of the state that
-- was handed in
pub patchable_from : (actions : List Action) (merge : Merge) (table : LaneTable) (state : StateIndex) (states : Vec (State Bits) Global) → merge.table.now ≡ table → merge.inconsistent_state ≡ state → merge.states ≡ states → table.conflicts ≡ length actions →
    ((before : State Bits) → slice_get states.items state.0 ≡ Some before → AreAmong actions before) → IsPatchable actions merge
patchable_from actions merge table state states same_table same_state same_states counted among = record {
  counted = ap (λ (t : LaneTable). t.conflicts) same_table ∙ counted;
  among = λ before at. among before (ap (λ (s : StateIndex). slice_get states.items s.0) (sym same_state) ∙ ap (λ (xs : Vec (State Bits) Global). slice_get xs.items merge.inconsistent_state.0) (sym same_states) ∙ at);
}

-- the states and the graph after a merge
pub merged_copied : (old new : Copying) (before merge : Merge) (count : ℕ) → new.originals.items ≡ map (number_in old.originals.items) merge.originals.items → before.states ≡ old.states → before.copies_left ≡ old.copies_left → AreCopies false before.states.items merge.originals.items merge.states.items →
    merge.copies_left + length merge.states.items ≡ before.copies_left + length before.states.items → new.states ≡ merge.states → new.copies_left ≡ merge.copies_left → length old.states.items ≡ count → IsGraphOf (edges old.states.items) old.graph →
    FollowsCopies count merge.originals.items merge.states.items merge.states.items old.graph new.graph → IsCopied old new
merged_copied old new before merge count first same same_left copies counted now left number graph follows =
    let each : AreCopies false old.states.items merge.originals.items merge.states.items = subst (λ (xs : Vec (State Bits) Global). AreCopies false xs.items merge.originals.items merge.states.items) same copies in
    record {
      originals = merge.originals.items;
      each = subst (λ (xs : Vec (State Bits) Global). AreCopies false old.states.items merge.originals.items xs.items) (sym now) each;
      first = first;
      counted = let a = ap (λ (xs : Vec (State Bits) Global). length xs.items) now in let b = ap (λ (xs : Vec (State Bits) Global). length xs.items) same in omega arith;
      graph = subst (λ (xs : Vec (State Bits) Global). IsGraphOf (edges xs.items) new.graph) (sym now) (follows old.states.items number each graph);
    }

pub copied_weaker : (old new : Merge) → AreCopies true old.states.items old.originals.items old.states.items → Advances old new → AreCopies false old.states.items new.originals.items new.states.items
copied_weaker old new begun on = copies_weaker true old.states.items new.originals.items new.states.items (on.copies true old.states.items begun)

-- ---- a state with a reduction has an action, which has a column
pub some_asked : (terminals : List TerminalString) (state : State Bits) (actions : List Action) → AreActions (asked_actions terminals state) actions → 0 < length state.reductions.items → 0 < length actions
some_asked terminals state actions asked some =
    let first = filled state.reductions.items 0 some in
    asked_some terminals state actions asked first.0 (place_contains state.reductions.items 0 first.0 first.1)
