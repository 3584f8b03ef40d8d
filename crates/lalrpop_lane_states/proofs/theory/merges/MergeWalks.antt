-- A walk with pending joins: it comes to a state, it makes a join, and it ends if no join is
-- pending.
use Rattle.std.proofs.Common.{◌≡◌, ◌∙◌, ◌↔◌, ℕ, suc, ◌+◌, ◌*◌, ◌<◌, ◌≤◌, ◌⊎◌, inl, inr, false, List, [], ◌∷◌, ◌++◌, length, map, reverse, Some, sym, ap, subst, arith, length-append}
use Rattle.std.specs.Prelude.{slice_get, Contains}
use Rattle.std.specs.Borrow.{Bor}
use Rattle.std.specs.List.{range_with_len}
use Rattle.std.specs.List.Sorted.{IsStrictlySortedBy}
use Rattle.std.proofs.Math.Nat.{suc-mul}
use Rattle.std.proofs.lemmas.List.{length-map, length-reverse}
use Rattle.std.proofs.lemmas.List.Elements.{Contains-append_left, Contains-append_right, Contains-append_cases, Contains-push, Contains-push_cases}
use Rattle.std.proofs.lemmas.List.FromFn.{length-map-range_with_len}
use Rattle.std.proofs.lemmas.Nat.{mul-le}
use Rattle.std.proofs.lemmas.Option.{slice_get_within}
use Rattle.lalrpop_lane_states.proofs.Types.{StateIndex}
use Rattle.lalrpop_collections.proofs.theory.lists.Lists.{contains_of_map}
use Rattle.lalrpop_lane_states.specs.Words.{Advances, HasJoined, HasWalked, HaveNoNewMarks, HaveWalked, IsJoinedCopy, IsLinked, IsMerging, IsVisited, HasOriginalRow, unvisited}
use Rattle.lalrpop_lanes.specs.Words.{IsSuccessor}
use Rattle.lalrpop_state_graph.specs.Words.{index, state_cmp}
use Rattle.lalrpop_lane_states.specs.Words.{ComesTo, HasJoinedBut, IsJoin, IsJoinMade, IsMergeWalk, join_to, joins_to, most_joins}
use Rattle.lalrpop_lane_states.specs.declared.lane_table.construct.merge.Merge.{Merge}
use Rattle.lalrpop_lane_states.specs.declared.lane_table.construct.merge.walk.Join.{Join}
use Rattle.lalrpop_lanes.specs.declared.lane_table.table.LaneTable.{LaneTable}
use Rattle.lalrpop_collections.proofs.theory.lists.Members.{contains_map, Contains-none, Contains-range, Contains-reverse, Contains-from_reverse, apart-from_sorted, pigeonhole}
use Rattle.lalrpop_lane_states.proofs.theory.merges.Merges.{advances_on, copy_on, leads_on, led_on, mark_advance, mark_cases, mark_less, mark_there, marked, successor_own, walked_on}
use Rattle.lalrpop_collections.proofs.theory.lists.Places.{same_some}
use Rattle.lalrpop_lane_states.proofs.theory.merges.LinkedStates.{linked_led}
use Rattle.lalrpop_state_graph.proofs.theory.graphs.StateGraphs.{state_total}

-- ---- a join that was made stays
module _ (now new : Merge) (ready : IsMerging now) (a : Advances now new) (n original : ℕ) (right : StateIndex) (there : slice_get now.originals.items n ≡ Some original) (e : IsSuccessor now.table.now (index original) right) where
  pub done_on : IsJoinMade now (join_to (index n) right) → IsJoinMade new (join_to (index n) right)
  done_on done =
      let row = ready.closed (index original) right e in
      (done.0, copy_on now new ready a n original right done.0 there done.1, a.marks done.0.0 done.2, led_on now new ready a n original right done.0 there (ready.rows right row) done.3)

-- ---- a step of a walk
module _ (old now new : Merge) (rest after : List Join) (w : IsMergeWalk old now rest) (a : Advances now new) where
  abbrev ready : IsMerging now
  ready = w.advances.ready

  join_on : (join : Join) → IsJoin now join → IsJoin new join
  join_on join is = record { walked = walked_on now new a join.state is.walked; leads = leads_on now new a join.state join.successor is.walked is.leads }

  -- each pending join was made, or is still pending
  module _ (made : (join : Join) → Contains rest join → Contains after join ⊎ IsJoinMade new join) where
    but_on : (n : ℕ) → HasJoinedBut rest now n → HasJoinedBut after new n
    but_on n h = record {
      original = h.original;
      there = a.originals n h.original h.there;
      joined = λ right e. elim (h.joined right (subst (λ (t : Bor LaneTable). IsSuccessor t.now (index h.original) right) a.table e)) [
        | inl pending ↦ made (join_to (index n) right) pending
        | inr done ↦
            let was : IsSuccessor now.table.now (index h.original) right = subst (λ (t : Bor LaneTable). IsSuccessor t.now (index h.original) right) a.table e in
            inr (done_on now new ready a n h.original right h.there was done)
      ];
    }

    pub walk_on : unvisited new ≤ unvisited now → ((join : Join) → Contains after join → Contains rest join ⊎ IsJoin new join) → ((n : ℕ) → IsVisited new n → IsVisited now n ⊎ HasJoinedBut after new n) → IsMergeWalk old new after
    walk_on less added joined = record {
      advances = advances_on old now new w.advances a;
      fewer = let m = w.fewer in omega (arith, less, m);
      joins = λ join c. elim (added join c) [ inl was ↦ join_on join (w.joins join was) | inr is ↦ is ];
      joined = λ n h. elim (joined n h) [
        | inl was ↦ elim (w.joined n was) [ inl before ↦ inl before | inr j ↦ inr (but_on n j) ]
        | inr j ↦ inr j
      ];
    }

-- the walk comes to its first state
pub walk_begins : (old new : Merge) (state : StateIndex) (before after : List Join) → before ≡ [] → Advances old new → unvisited new ≤ unvisited old → ComesTo state old new before after → IsMergeWalk old new after
walk_begins old new state before after none a less c = record {
  advances = a;
  fewer = less;
  joins = λ join p. elim (c.added join p) [ inl was ↦ absurd (Contains-none join (subst (λ (l : List Join). Contains l join) none was)) | inr is ↦ is ];
  joined = c.joined;
}

-- the last of the pending joins can be made
pub last_join : (old now : Merge) (join : Join) (pending before : List Join) → IsMergeWalk old now pending → pending ≡ before ++ join ∷ [] → IsJoin now join
last_join old now join pending before w split = w.joins join (subst (λ (l : List Join). Contains l join) (sym split) (Contains-push before join))

-- the last join is made, and the walk comes to its copy
pub walk_joins : (old now mid new : Merge) (join : Join) (copy : StateIndex) (pending before after : List Join) → IsMergeWalk old now pending → pending ≡ before ++ join ∷ [] → Advances now mid → HaveNoNewMarks now mid → unvisited mid ≤ unvisited now → IsJoinedCopy join.state join.successor copy mid → IsLinked join.state.0 join.successor.0 copy.0 now.states.items mid.states.items →
    Advances mid new → unvisited new ≤ unvisited mid → ComesTo copy mid new before after → IsMergeWalk old new after
walk_joins old now mid new join copy pending before after w split a marks less is link b fewer c =
    let walked = walked_on now mid a join.state (last_join old now join pending before w split).walked in
    let can = last_join old now join pending before w split in
    let own : slice_get mid.originals.items join.successor.0 ≡ Some join.successor.0 = a.originals join.successor.0 join.successor.0 (successor_own now w.advances.ready join.state join.successor can.walked can.leads) in
    let done : IsJoinMade new join = (copy, copy_on mid new a.ready b join.state.0 walked.original join.successor copy walked.there is, c.there, led_on mid new a.ready b join.state.0 walked.original join.successor copy walked.there own (linked_led join.state join.successor copy now mid link)) in
    walk_on old now new pending after w (advances_on now mid new a b)
    (λ other p. elim (Contains-push_cases before join other (subst (λ (l : List Join). Contains l other) split p)) [
      | inl was ↦ inl (c.kept other was)
      | inr same ↦ inr (subst (IsJoinMade new) same done)
    ])
    (omega (arith, less, fewer))
    (λ other p. elim (c.added other p) [ inl was ↦ inl (subst (λ (l : List Join). Contains l other) (sym split) (Contains-append_left before (join ∷ []) other was)) | inr is ↦ inr is ])
    (λ n h. elim (c.joined n h) [ inl was ↦ inl (marks n was) | inr j ↦ inr j ])

-- the walk ends if no join is pending
pub walk_ends : (old new : Merge) (state : StateIndex) (pending : List Join) → IsMergeWalk old new pending → length pending ≡ 0 → IsVisited new state.0 → HasWalked state old new
walk_ends old new state pending w none there = record {
  there = there;
  joined = λ n h. elim (w.joined n h) [
    | inl was ↦ inl was
    | inr j ↦ inr (record {
      original = j.original;
      there = j.there;
      joined = λ right e. elim (j.joined right e) [ inl among ↦ let listed = among.1 in absurd (omega (arith, listed, none)) | inr done ↦ done ];
    })
  ];
}

-- ---- one walk after the other
-- a state that was joined to its successors stays so
pub joined_on : (now new : Merge) → IsMerging now → Advances now new → (n : ℕ) → HasJoined now n → HasJoined new n
joined_on now new ready a n h = record {
  original = h.original;
  there = a.originals n h.original h.there;
  joined = λ right e.
      let was : IsSuccessor now.table.now (index h.original) right = subst (λ (t : Bor LaneTable). IsSuccessor t.now (index h.original) right) a.table e in
      done_on now new ready a n h.original right h.there was (h.joined right was);
}

pub walked_none : (merge : Merge) → HaveWalked [] merge merge
walked_none merge = record { there = λ state c. absurd (Contains-none state c); joined = λ n h. inl h }

-- one walk more, from a further state
pub walked_more : (old now new : Merge) (done : List StateIndex) (state : StateIndex) → Advances old now → HaveWalked done old now → Advances now new → HasWalked state now new → HaveWalked (done ++ state ∷ []) old new
walked_more old now new done state a h b w = record {
  there = λ s c. elim (Contains-push_cases done state s c) [
    | inl was ↦ b.marks s.0 (h.there s was)
    | inr same ↦ subst (λ (t : StateIndex). IsVisited new t.0) same w.there
  ];
  joined = λ n v. elim (w.joined n v) [
    | inl was ↦ elim (h.joined n was) [ inl before ↦ inl before | inr j ↦ inr (joined_on now new a.ready b n j) ]
    | inr j ↦ inr j
  ];
}

-- ---- the walk comes to a new state
module _ (merge : Merge) (ready : IsMerging merge) (state : StateIndex) (w : HasOriginalRow merge state) (original : ℕ) (at : slice_get merge.originals.items state.0 ≡ Some original) (successors : List StateIndex)
    (exactly : (right : StateIndex) → Contains successors right ↔ IsSuccessor merge.table.now (index original) right) where
  abbrev joins : List Join
  joins = reverse (joins_to state successors)

  abbrev begun : Merge
  begun = marked merge state

  own_join : (join : Join) → Contains joins join → IsJoin begun join
  own_join join c =
      let (right, there, same) = contains_of_map (join_to state) successors join (Contains-from_reverse (joins_to state successors) join c) in
      subst (IsJoin begun) same (record {
        walked = walked_on merge begun (mark_advance merge state ready w) state w;
        leads = λ o here. subst (λ k. IsSuccessor merge.table.now (index k) right) (same_some original o (sym at ∙ here)) ((exactly right).0 there);
      })

  -- the state is marked, and its joins are appended to those that are pending
  pub comes_newly : (before after : List Join) → after ≡ before ++ joins → ComesTo state merge begun before after
  comes_newly before after pushed = record {
    there = mark_there merge state ready w;
    joined = λ n h. elim (mark_cases merge state n h) [
      | inl was ↦ inl was
      | inr here ↦ inr (subst (HasJoinedBut after begun) (sym here) (record {
        original = original;
        there = at;
        joined = λ right e. inl (subst (λ (l : List Join). Contains l (join_to state right)) (sym pushed)
            (Contains-append_right before joins (join_to state right) (Contains-reverse (joins_to state successors) (join_to state right) (contains_map (join_to state) successors right ((exactly right).1 e)))));
      }))
    ];
    kept = λ join c. subst (λ (l : List Join). Contains l join) (sym pushed) (Contains-append_left before joins join c);
    added = λ join c. elim (Contains-append_cases before joins join (subst (λ (l : List Join). Contains l join) pushed c)) [ inl was ↦ inl was | inr own ↦ inr (own_join join own) ];
  }

  -- the state has no more successors than there are states
  pub few : IsStrictlySortedBy state_cmp successors → length successors ≤ length merge.states.items
  few rises =
      let count = length merge.states.items in
      let small : (s : StateIndex) → Contains successors s → s.0 < count = λ s c.
      let row = ready.closed (index original) s ((exactly s).0 c) in
      let listed = slice_get_within merge.originals.items s.0 s.0 (ready.rows s row) in
      let e = ready.copies.counted in
      omega arith
      in
      let most = pigeonhole successors (map index (range_with_len 0 count)) (apart-from_sorted state_cmp state_total successors rises) (λ s c. contains_map index (range_with_len 0 count) s.0 (Contains-range count s.0 (small s c))) in
      let same = length-map-range_with_len index 0 count in
      omega arith

  pub falls_newly : slice_get merge.visited.items state.0 ≡ Some false → length successors ≤ length merge.states.items → (before after : List Join) → after ≡ before ++ joins → most_joins begun after ≤ most_joins merge before
  falls_newly unmarked less before after pushed =
      let room = merge.copies_left + length merge.states.items in
      let once = mark_less merge state unmarked in
      let next : unvisited merge ≡ suc (unvisited begun) = omega (arith, once) in
      let times : unvisited merge * room ≡ unvisited begun * room + room = ap (λ m. m * room) next ∙ suc-mul (unvisited begun) room in
      let grown : length after ≡ length before + length joins = ap length pushed ∙ length-append before joins in
      let own : length joins ≡ length successors = length-reverse (joins_to state successors) ∙ length-map successors (join_to state) in
      omega arith

-- the join is made, and the walk comes to its copy
pub falls_joining : (now mid new : Merge) (join : Join) (pending before after : List Join) → pending ≡ before ++ join ∷ [] → Advances now mid → unvisited mid ≤ unvisited now → most_joins new after ≤ most_joins mid before → most_joins new after < most_joins now pending
falls_joining now mid new join pending before after split a less falls =
    let same : mid.copies_left + length mid.states.items ≡ now.copies_left + length now.states.items = a.counted in
    let most : unvisited mid * (mid.copies_left + length mid.states.items) ≤ unvisited now * (now.copies_left + length now.states.items) = mul-le (unvisited mid) (mid.copies_left + length mid.states.items) (unvisited now) (now.copies_left + length now.states.items) less (omega arith) in
    let grown : length pending ≡ length before + 1 = ap length split ∙ length-append before (join ∷ []) in
    omega arith
