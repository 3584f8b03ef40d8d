-- The steps by which sets are spread over the edges of a graph, until no edge adds anything.
use Rattle.std.proofs.Common.{◌≡◌, ◌≢◌, ℕ, suc, ◌+◌, ◌*◌, ◌-◌, ◌<◌, ◌≤◌, ◌⊎◌, inl, inr, Bool, true, false, ◌||◌, List, [], ◌∷◌, length, get_or, set, Some, refl, sym, ◌∙◌, ap, subst, arith}
use Rattle.std.specs.Prelude.{Contains, MatchBool, sum_by, ◌↔◌}
use Rattle.std.specs.declared.alloc.Global.{Global}
use Rattle.std.specs.declared.vec.Vec.{Vec}
use Rattle.std.proofs.lemmas.Bool.{cases_eq, cases_lt, or_cases, true≢false, or_left, or_right}
use Rattle.std.proofs.lemmas.List.{length-set, get_or-set_same, get_or-set_other, get_or_default, get_or_past, set-set, set_comm, set-get_or}
use Rattle.std.proofs.lemmas.Option.{slice_get-get_or}
use Rattle.std.proofs.lemmas.List.Elements.{Contains-get_or}
use Rattle.std.proofs.lemmas.List.Sums.{sum_by-set, sum_by-le, get_or-le-sum_by}
use Rattle.lalrpop_collections.specs.Words.{Bits, has, rising, join, no_bits, has-no_bits, has-join, has-place, same_bits, HoldsBit, edge_ends, IsSpread, held, sent_on}
use Rattle.lalrpop_collections.specs.Words.{Waiting, waits}
use Rattle.lalrpop_collections.specs.lists.Spreading.{set_at, listed_ends, IsJoinedInto, size, IsSent}
use Rattle.lalrpop_collections.specs.lists.Queues.{waiting_with}
use Rattle.lalrpop_collections.proofs.theory.lists.Members.{Contains-none}
use Rattle.lalrpop_collections.proofs.theory.collections.Queues.{left_kept, waits_among, with_here, with_kept, with_longer}
use Rattle.lalrpop_collections.proofs.theory.sets.BitCounts.{join_larger, rising_small}

-- ---- one join
join_itself : (s : Bits) → join s s ≡ s
join_itself s = same_bits _ _ (λ q. has-join s s q ∙ twice (has s q))
  where
    twice : (b : Bool) → (b || b) ≡ b
    twice true = refl
    twice false = refl

-- an edge from a number to itself adds nothing
pub joined_itself : (from to : ℕ) (sets : List Bits) → from ≡ to → IsJoinedInto false from to sets sets
joined_itself from to sets e =
    let same : join (set_at sets to) (set_at sets from) ≡ set_at sets to = ap (λ k. join (set_at sets to) (set_at sets k)) e ∙ join_itself (set_at sets to) in
    record { joined = sym (ap (set sets to) same ∙ set-get_or sets to no_bits); told = same }

-- a set that is taken out for the join, and put back
module _ (from to : ℕ) (sets : List Bits) (out taken there joined : Bits) (apart : from ≡ to → ⊥) (listed : from < length sets) (end : to < length sets) where
  pub joined_apart : (grew : Bool) → taken ≡ get_or sets from taken → there ≡ get_or (set sets from out) to there → joined ≡ join there taken → MatchBool grew (joined ≢ there) (joined ≡ there) →
      IsJoinedInto grew from to sets (set (set (set sets from out) to joined) from taken)
  joined_apart grew t h j told =
      let taken_is : taken ≡ set_at sets from = t ∙ get_or_default sets from taken no_bits listed in
      let there_is : there ≡ set_at sets to = h ∙ get_or-set_other sets from to out there (λ e. apart (sym e)) ∙ get_or_default sets to there no_bits end in
      let joined_is : joined ≡ join (set_at sets to) (set_at sets from) = j ∙ ap (λ s. join s taken) there_is ∙ ap (join (set_at sets to)) taken_is in
      record {
        joined =
            ap (λ s. set s from taken) (set_comm sets from to out joined apart)
            ∙ set-set (set sets to joined) from out taken
            ∙ ap (set (set sets to joined) from) (taken_is ∙ sym (get_or-set_other sets to from joined no_bits apart))
            ∙ set-get_or (set sets to joined) from no_bits
            ∙ ap (set sets to) joined_is;
        told = subst (λ s. MatchBool grew (s ≢ set_at sets to) (s ≡ set_at sets to)) joined_is (subst (λ s. MatchBool grew (joined ≢ s) (joined ≡ s)) there_is told);
      }

module _ {grew : Bool} {from to : ℕ} {old new : List Bits} (end : to < length old) (j : IsJoinedInto grew from to old new) where
  at_end : set_at new to ≡ join (set_at old to) (set_at old from)
  at_end = ap (λ (sets : List Bits). set_at sets to) j.joined ∙ get_or-set_same old to (join (set_at old to) (set_at old from)) no_bits end

  at_other : (n : ℕ) → (n ≡ to → ⊥) → set_at new n ≡ set_at old n
  at_other n apart = ap (λ (sets : List Bits). set_at sets n) j.joined ∙ get_or-set_other old to n (join (set_at old to) (set_at old from)) no_bits apart

  joined_counted : length new ≡ length old
  joined_counted = ap length j.joined ∙ length-set old to (join (set_at old to) (set_at old from))

  has_end : (bit : ℕ) → has (set_at new to) bit ≡ (has (set_at old to) bit || has (set_at old from) bit)
  has_end bit = ap (λ (s : Bits). has s bit) at_end ∙ has-join (set_at old to) (set_at old from) bit

  joined_kept : (n bit : ℕ) → HoldsBit old n bit → HoldsBit new n bit
  joined_kept n bit h = elim (cases_eq n to) [
    | inl e ↦ subst (λ k. HoldsBit new k bit) (sym e) (has_end bit ∙ or_left (has (set_at old to) bit) (has (set_at old from) bit) (subst (λ k. HoldsBit old k bit) e h))
    | inr apart ↦ ap (λ (s : Bits). has s bit) (at_other n apart) ∙ h
  ]

  joined_came : (n bit : ℕ) → HoldsBit new n bit → HoldsBit old n bit ⊎ ((n ≡ to) × HoldsBit old from bit)
  joined_came n bit h = elim (cases_eq n to) [
    | inl e ↦ elim (or_cases (has (set_at old to) bit) (has (set_at old from) bit) (sym (has_end bit) ∙ subst (λ k. HoldsBit new k bit) e h)) [
      | inl there ↦ inl (subst (λ k. HoldsBit old k bit) (sym e) there)
      | inr came ↦ inr (e, came)
    ]
    | inr apart ↦ inl (sym (ap (λ (s : Bits). has s bit) (at_other n apart)) ∙ h)
  ]

  joined_sent : (bit : ℕ) → HoldsBit old from bit → HoldsBit new to bit
  joined_sent bit h = has_end bit ∙ or_right (has (set_at old to) bit) (has (set_at old from) bit) h

-- a set that grew has more bits
joined_larger : {from to : ℕ} {old new : List Bits} → to < length old → IsJoinedInto true from to old new → size old + 1 ≤ size new
joined_larger {from} {to} {old} {new} end j =
    let larger : length (rising (set_at old to)) < length (rising (join (set_at old to) (set_at old from))) = join_larger (set_at old to) (set_at old from) j.told in
    let counts = sum_by-set (λ (s : Bits). length (rising s)) old to (join (set_at old to) (set_at old from)) no_bits end in
    let same : size new ≡ size (set old to (join (set_at old to) (set_at old from))) = ap size j.joined in
    omega (arith, larger, counts, same)

joined_same : {from to : ℕ} {old new : List Bits} → IsJoinedInto false from to old new → new ≡ old
joined_same {from} {to} {old} j = j.joined ∙ ap (set old to) j.told ∙ set-get_or old to no_bits

-- ---- the edges of a number
module _ (from : ℕ) (ends : List ℕ) where
  module _ {few : ℕ} {old mid new : List Bits} {before between : Waiting} {grew : Bool} (listed : few < length ends) (in_range : get_or ends few 0 < length old) (s : IsSent from ends few old mid before between) (j : IsJoinedInto grew from (get_or ends few 0) mid new) where
    end : get_or ends few 0 < length mid
    end = omega (arith, in_range, s.counted)

    -- a bit that the sender has when it is sent was there at first
    sender : (bit : ℕ) → HoldsBit mid from bit → HoldsBit old from bit
    sender bit h = elim (s.came from bit h) [ inl there ↦ there | inr sent ↦ sent.1 ]

    next_kept : (n bit : ℕ) → HoldsBit old n bit → HoldsBit new n bit
    next_kept n bit h = joined_kept end j n bit (s.kept n bit h)

    next_came : (n bit : ℕ) → HoldsBit new n bit → HoldsBit old n bit ⊎ (Contains ends n × HoldsBit old from bit)
    next_came n bit h = elim (joined_came end j n bit h) [
      | inl there ↦ s.came n bit there
      | inr came ↦ inr (subst (Contains ends) (sym came.0) (Contains-get_or ends few 0 listed), sender bit came.1)
    ]

    next_sent : (k bit : ℕ) → k < few + 1 → HoldsBit old from bit → HoldsBit new (get_or ends k 0) bit
    next_sent k bit l h = elim (cases_eq k few) [
      | inl e ↦ subst (λ m. HoldsBit new (get_or ends m 0) bit) (sym e) (joined_sent end j bit (s.kept from bit h))
      | inr apart ↦ joined_kept end j (get_or ends k 0) bit (s.sent k bit (omega (arith, l, apart)) h)
    ]

  pub sent_grown : {few : ℕ} {old mid new : List Bits} {before between after : Waiting} → few < length ends → get_or ends few 0 < length old → IsSent from ends few old mid before between → IsJoinedInto true from (get_or ends few 0) mid new → after.limit ≡ between.limit → after.numbers ≡ waiting_with (get_or ends few 0) between.numbers →
      IsSent from ends (few + 1) old new before after
  sent_grown {few} {old} {mid} {new} {before} {between} {after} listed in_range s j limit added = record {
    counted = joined_counted (end listed in_range s j) j ∙ s.counted;
    limit = limit ∙ s.limit;
    kept = next_kept listed in_range s j;
    came = next_came listed in_range s j;
    sent = next_sent listed in_range s j;
    waits = λ n w. kept n (s.waits n w);
    others = λ n rests. at_other (end listed in_range s j) j n (λ e. rests (subst (Contains after.numbers) (sym e) here)) ∙ s.others n (λ w. rests (kept n w));
    weighed = omega (arith, s.weighed, joined_larger (end listed in_range s j) j, ap length added, with_longer between.numbers (get_or ends few 0));
  }
    where
      here : Contains after.numbers (get_or ends few 0)
      here = subst (λ (ns : List ℕ). Contains ns (get_or ends few 0)) (sym added) (with_here between.numbers (get_or ends few 0))

      kept : (n : ℕ) → Contains between.numbers n → Contains after.numbers n
      kept n c = subst (λ (ns : List ℕ). Contains ns n) (sym added) (with_kept between.numbers (get_or ends few 0) n c)

  pub sent_same : {few : ℕ} {old mid new : List Bits} {before between : Waiting} → few < length ends → get_or ends few 0 < length old → IsSent from ends few old mid before between → IsJoinedInto false from (get_or ends few 0) mid new → IsSent from ends (few + 1) old new before between
  sent_same {few} {old} {mid} {new} {before} {between} listed in_range s j = record {
    counted = joined_counted (end listed in_range s j) j ∙ s.counted;
    limit = s.limit;
    kept = next_kept listed in_range s j;
    came = next_came listed in_range s j;
    sent = next_sent listed in_range s j;
    waits = s.waits;
    others = λ n rests. ap (λ (sets : List Bits). set_at sets n) (joined_same j) ∙ s.others n rests;
    weighed = omega (arith, s.weighed, ap size (joined_same j));
  }

-- ---- the whole
module _ (base : List Bits) (edges : List (Vec ℕ Global)) where
  -- the sets so far are between the first ones and the least ones. The ends of the edges from a
  -- number that does not wait have all bits of its set
  pub record SpreadSoFar (sets : List Bits) (waiting : Waiting) : Type 0 where
    pub counted : length sets ≡ length base
    pub limit : waiting.limit ≡ length base
    pub kept : (n bit : ℕ) → HoldsBit base n bit → HoldsBit sets n bit
    pub only : (n bit : ℕ) → HoldsBit sets n bit → IsSpread base edges n bit
    pub settled : (from to bit : ℕ) → ¬ Contains waiting.numbers from → Contains (edge_ends edges from) to → HoldsBit sets from bit → HoldsBit sets to bit

  pub nothing_spread : (waiting : Waiting) → length edges ≡ length base → waiting.limit ≡ length base → ((k : ℕ) → k < length base → waits waiting.numbers k ≡ true) → SpreadSoFar base waiting
  nothing_spread waiting counted limit all = record {
    counted = refl;
    limit = limit;
    kept = λ n bit h. h;
    only = λ n bit h. held n bit h;
    settled = λ from to bit rests edge h. elim (cases_lt from (length base)) [
      | inl listed ↦ absurd (rests (waits_among waiting.numbers from (all from listed)))
      | inr past ↦ absurd (none_past from bit past h)
    ];
  }
    where
      none_past : (n bit : ℕ) → length base ≤ n → HoldsBit base n bit → ⊥
      none_past n bit past h = true≢false (sym h ∙ ap (λ (s : Bits). has s bit) (get_or_past base n no_bits past) ∙ has-no_bits bit)

  pub spread_further : (from : ℕ) (sets new : List Bits) (waiting taken after : Waiting) → SpreadSoFar sets waiting → taken.limit ≡ waiting.limit → waiting.numbers ≡ from ∷ taken.numbers → IsSent from (edge_ends edges from) (length (edge_ends edges from)) sets new taken after → SpreadSoFar new after
  spread_further from sets new waiting taken after so limit first s = record {
    counted = s.counted ∙ so.counted;
    limit = s.limit ∙ limit ∙ so.limit;
    kept = λ n bit h. s.kept n bit (so.kept n bit h);
    only = λ n bit h. elim (s.came n bit h) [ inl there ↦ so.only n bit there | inr sent ↦ sent_on from n bit sent.0 (so.only from bit sent.1) ];
    settled = λ m n bit rests edge h. elim (cases_eq m from) [
      | inl e ↦ sent_to n bit (subst (λ k. Contains (edge_ends edges k) n) e edge) (subst (λ k. HoldsBit new k bit) e h)
      | inr apart ↦ s.kept n bit (so.settled m n bit (λ w. rests (s.waits m (left_kept waiting.numbers taken.numbers from m first apart w))) edge (sym (ap (λ (x : Bits). has x bit) (s.others m rests)) ∙ h))
    ];
  }
    where
      sent_to : (n bit : ℕ) → Contains (edge_ends edges from) n → HoldsBit new from bit → HoldsBit new n bit
      sent_to n bit edge h =
          let old : HoldsBit sets from bit = elim (s.came from bit h) [ inl there ↦ there | inr sent ↦ sent.1 ] in
          subst (λ k. HoldsBit new k bit) (get_or_default (edge_ends edges from) edge.0 0 n edge.1 ∙ edge.2) (s.sent edge.0 bit edge.1 old)

  pub all_spread : (sets : List Bits) (waiting : Waiting) → SpreadSoFar sets waiting → waiting.numbers ≡ [] → (n bit : ℕ) → HoldsBit sets n bit ↔ IsSpread base edges n bit
  all_spread sets waiting so empty n bit = (so.only n bit, back)
    where
      back : {n bit : ℕ} → IsSpread base edges n bit → HoldsBit sets n bit
      back (held n bit h) = so.kept n bit h
      back (sent_on from to bit edge k) = so.settled from to bit (λ w. Contains-none from (subst (λ (xs : List ℕ). Contains xs from) empty w)) edge (back k)

  -- ---- a bound on the number of steps
  -- a number above each bit of the sets
  above : ℕ
  above = sum_by (λ (s : Bits). sum_by suc (rising s)) base

  bit_below : (n bit : ℕ) → HoldsBit base n bit → bit < above
  unfolding above
  bit_below n bit h = elim (cases_lt n (length base)) [
    | inl listed ↦
        let place = has-place (set_at base n) bit h in
        let inner : suc (get_or (rising (set_at base n)) place.0 0) ≤ sum_by suc (rising (set_at base n)) = get_or-le-sum_by suc (rising (set_at base n)) place.0 0 place.1 in
        let outer : sum_by suc (rising (set_at base n)) ≤ above = get_or-le-sum_by (λ (s : Bits). sum_by suc (rising s)) base n no_bits listed in
        omega (arith, inner, outer, place.2)
    | inr past ↦ absurd (true≢false (sym h ∙ ap (λ (s : Bits). has s bit) (get_or_past base n no_bits past) ∙ has-no_bits bit))
  ]

  spread_below : {n bit : ℕ} → IsSpread base edges n bit → bit < above
  spread_below (held n bit h) = bit_below n bit h
  spread_below (sent_on from to bit edge k) = spread_below k

  size_below : (sets : List Bits) (waiting : Waiting) → SpreadSoFar sets waiting → size sets ≤ length base * above
  size_below sets waiting so =
      let most : size sets ≤ length sets * above = sum_by-le (λ (s : Bits). length (rising s)) above sets (λ k d l. rising_small (get_or sets k d) above (λ q h. spread_below (so.only k q (ap (λ (s : Bits). has s q) (get_or_default sets k no_bits d l) ∙ h)))) in
      subst (λ n. size sets ≤ n * above) so.counted most

  -- the number of bits that can still be added, plus that of the numbers that wait
  pub left_to_spread : List Bits → Waiting → ℕ
  left_to_spread sets waiting = (length base * above - size sets) + length waiting.numbers

  pub spread_falls : (from : ℕ) (sets new : List Bits) (waiting taken after : Waiting) → SpreadSoFar sets waiting → taken.limit ≡ waiting.limit → waiting.numbers ≡ from ∷ taken.numbers → IsSent from (edge_ends edges from) (length (edge_ends edges from)) sets new taken after → left_to_spread new after < left_to_spread sets waiting
  unfolding left_to_spread
  spread_falls from sets new waiting taken after so limit first s =
      let bound = size_below new after (spread_further from sets new waiting taken after so limit first s) in
      omega (arith, bound, ap length first, s.weighed)

-- the ends of the edges as they are read
pub ends_read : (edges : List (Vec ℕ Global)) (from : ℕ) (list : Vec ℕ Global) (ends : List ℕ) → from < length edges → list ≡ get_or edges from list → ends ≡ list.items → ends ≡ edge_ends edges from
ends_read edges from list ends listed is e = e ∙ sym (ap listed_ends (slice_get-get_or edges from list listed ∙ ap (λ (xs : Vec ℕ Global). Some xs) (sym is)))
