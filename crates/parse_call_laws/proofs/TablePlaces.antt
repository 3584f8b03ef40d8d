-- What the numbers of tables have at their places.
use Rattle.std.proofs.Common.{◌≡◌, ◌+◌, ◌*◌, ◌≤◌, ◌==◌, ◌&&◌, ℕ, zero, suc, List, [], ◌∷◌, ◌++◌, None, Some, cond, length, take, drop, slice_get, sym, ◌∙◌, ap, arith, append_assoc, length-append, length-drop}
use Rattle.std.specs.List.{flat_map}
use Rattle.std.proofs.Math.Seq.{drop-append-add}
use Rattle.std.proofs.lemmas.Bool.{le-leb, le-ltb, lt-ltb}
use Rattle.std.proofs.lemmas.List.{drop-append-le}
use Rattle.std.proofs.lemmas.Option.{slice_get_within}
use Rattle.parse_calls.specs.Places.{Lists, block_at, block_of, counts_of, pair_of, set_at, set_of, side_of, side_place, with_gotos, with_reductions, with_shifts}
use Rattle.parse_calls.specs.declared.places.Counts.{Counts}
use Rattle.table_numbers.proofs.PlaceLemmas.{length-pair_numbers}
use Rattle.table_numbers.proofs.UniqueLemmas.{length-places}
use Rattle.table_numbers.specs.Layout.{counted_pairs, first_list_place, first_set_place, first_state_place, head_of, item_block, numbers_of, pair_numbers, places_from, set_block, state_block}
use Rattle.table_numbers.specs.declared.tables.NumberedState.{NumberedState}
use Rattle.table_numbers.specs.declared.tables.NumberedTables.{NumberedTables}
use Rattle.parse_call_laws.proofs.Blocks.{block_there, counted_there, drop_part, get_after, get_within, place_of}

-- the lists of a state by number, as numbers
abbrev pub lists_of_state : NumberedState → Lists
lists_of_state s = record { shifts = pair_numbers s.shifts; gotos = pair_numbers s.gotos; reductions = pair_numbers s.reductions }

-- the counts of tables by number
abbrev pub counts : NumberedTables → Counts
counts t = record { lists = length t.items; terminals = t.terminals; nonterminals = t.nonterminals; productions = length t.productions; sets = length t.sets; states = length t.states }

-- the two numbers of a pair
pair_at : (pairs : List (ℕ × ℕ)) (rest : List ℕ) (k : ℕ) (p : ℕ × ℕ) → slice_get pairs k ≡ Some p → (slice_get (pair_numbers pairs ++ rest) (2 * k) ≡ Some p.0) × (slice_get (pair_numbers pairs ++ rest) (2 * k + 1) ≡ Some p.1)
pair_at [] rest k p e = cc
pair_at (q ∷ pairs) rest zero p e =
    let same : q ≡ p = cc in
    (ap (λ (x : ℕ × ℕ). Some x.0) same, ap (λ (x : ℕ × ℕ). Some x.1) same)
pair_at (q ∷ pairs) rest (suc k) p e =
    let others = pair_at pairs rest k p e in
    let all = q.0 ∷ q.1 ∷ (pair_numbers pairs ++ rest) in
    let one : 2 * suc k ≡ suc (suc (2 * k)) = omega arith in
    let two : 2 * suc k + 1 ≡ suc (suc (2 * k + 1)) = omega arith in
    (ap (slice_get all) one ∙ others.0, ap (slice_get all) two ∙ others.1)

module _ (t : NumberedTables) where
  abbrev set_places : List ℕ
  set_places = places_from set_block (first_set_place t) t.sets

  abbrev state_places : List ℕ
  state_places = places_from state_block (first_state_place t) t.states

  abbrev list_places : List ℕ
  list_places = places_from item_block (first_list_place t) t.items

  abbrev sides : List ℕ
  sides = pair_numbers t.productions

  abbrev sets : List ℕ
  sets = flat_map set_block t.sets

  abbrev states : List ℕ
  states = flat_map state_block t.states

  -- the blocks of the lists of items
  abbrev lists : List ℕ
  lists = flat_map item_block t.items

  -- all blocks
  abbrev blocks : List ℕ
  blocks = sets ++ (states ++ lists)

  -- the numbers before the blocks
  abbrev before : List ℕ
  before = head_of t ++ (set_places ++ (state_places ++ (list_places ++ sides)))

  -- a number after the head
  after_head : (n : ℕ) → slice_get (numbers_of t) (8 + n) ≡ slice_get (set_places ++ (state_places ++ (list_places ++ (sides ++ blocks)))) n
  after_head n =
      let eight : 8 + n ≡ suc (suc (suc (suc (suc (suc (suc (suc n))))))) = omega arith in
      ap (slice_get (numbers_of t)) eight

  split : numbers_of t ≡ before ++ blocks
  split = sym (append_assoc (head_of t) (set_places ++ (state_places ++ (list_places ++ sides))) blocks
      ∙ ap (λ l. head_of t ++ l) (append_assoc set_places (state_places ++ (list_places ++ sides)) blocks
      ∙ ap (λ l. set_places ++ l) (append_assoc state_places (list_places ++ sides) blocks
      ∙ ap (λ l. state_places ++ l) (append_assoc list_places sides blocks))))

  length-before : length before ≡ first_set_place t
  length-before =
      let one = length-append set_places (state_places ++ (list_places ++ sides)) in
      let two = length-append state_places (list_places ++ sides) in
      let three = length-append list_places sides in
      let four = length-places set_block (first_set_place t) t.sets in
      let five = length-places state_block (first_state_place t) t.states in
      let six = length-places item_block (first_list_place t) t.items in
      let seven = length-pair_numbers t.productions in
      omega (arith, one, two, three, four, five, six, seven)

  -- from the sets on
  from_sets : (m : ℕ) → drop (first_set_place t + m) (numbers_of t) ≡ drop m blocks
  from_sets m =
      ap (drop (first_set_place t + m)) split
      ∙ ap (λ k. drop (k + m) (before ++ blocks)) (sym length-before)
      ∙ drop-append-add before blocks m

  -- from the states on
  from_states : (m : ℕ) → drop (first_state_place t + m) (numbers_of t) ≡ drop m (states ++ lists)
  from_states m =
      let same : first_state_place t + m ≡ first_set_place t + (length sets + m) = omega arith in
      ap (λ k. drop k (numbers_of t)) same ∙ from_sets (length sets + m) ∙ drop-append-add sets (states ++ lists) m

  -- the counts of the head
  pub counts_right : counts_of (numbers_of t) ≡ Some (counts t)
  counts_right = ap (λ b. cond (b && (1280454996 == 1280454996) && (1 == 1)) (Some (counts t)) None) (le-leb 8 (length (numbers_of t)) (omega arith))

  -- ---- states
  -- the place of a state
  state_place : (n : ℕ) (s : NumberedState) → slice_get t.states n ≡ Some s → slice_get (numbers_of t) (8 + length t.sets + n) ≡ Some (first_state_place t + length (flat_map state_block (take n t.states)))
  state_place n s e =
      let same : 8 + length t.sets + n ≡ 8 + (length set_places + n) = let long = length-places set_block (first_set_place t) t.sets in omega (arith, long) in
      ap (slice_get (numbers_of t)) same
      ∙ after_head (length set_places + n)
      ∙ get_after set_places (state_places ++ (list_places ++ (sides ++ blocks))) n
      ∙ get_within state_places (list_places ++ (sides ++ blocks)) n _ (place_of state_block (first_state_place t) t.states n s e)

  -- the numbers from a state on
  state_numbers : (n : ℕ) (s : NumberedState) → slice_get t.states n ≡ Some s → drop (first_state_place t + length (flat_map state_block (take n t.states))) (numbers_of t) ≡ counted_pairs s.shifts ++ (counted_pairs s.gotos ++ (counted_pairs s.reductions ++ (flat_map state_block (drop (suc n) t.states) ++ lists)))
  state_numbers n s e =
      let m = length (flat_map state_block (take n t.states)) in
      let others = flat_map state_block (drop (suc n) t.states) in
      let rest = others ++ lists in
      let there = block_there state_block t.states n s e in
      let left = length-drop m states in
      let long : length (drop m states) ≡ suc (length (pair_numbers s.shifts ++ (counted_pairs s.gotos ++ counted_pairs s.reductions) ++ others)) = ap length there in
      let within : m ≤ length states = omega (arith, left, long) in
      from_states m
      ∙ drop-append-le m states lists within
      ∙ ap (λ (l : List ℕ). l ++ lists) there
      ∙ append_assoc (state_block s) others lists
      ∙ append_assoc (counted_pairs s.shifts) (counted_pairs s.gotos ++ counted_pairs s.reductions) rest
      ∙ ap (λ (l : List ℕ). counted_pairs s.shifts ++ l) (append_assoc (counted_pairs s.gotos) (counted_pairs s.reductions) rest)

  -- three counted lists, one after the other
  three_lists : (place : ℕ) (s : NumberedState) (rest : List ℕ) → drop place (numbers_of t) ≡ counted_pairs s.shifts ++ (counted_pairs s.gotos ++ (counted_pairs s.reductions ++ rest)) → block_at (numbers_of t) (Some place) ≡ Some (lists_of_state s)
  three_lists place s rest e =
      let shifts = pair_numbers s.shifts in
      let gotos = pair_numbers s.gotos in
      let reductions = pair_numbers s.reductions in
      let second = place + 1 + length shifts in
      let third = second + 1 + length gotos in
      let more = counted_pairs s.reductions ++ rest in
      let at_second : drop second (numbers_of t) ≡ counted_pairs s.gotos ++ more =
      ap (λ k. drop k (numbers_of t)) (let same : second ≡ place + length (counted_pairs s.shifts) = omega arith in same) ∙ drop_part (numbers_of t) place (counted_pairs s.shifts) (counted_pairs s.gotos ++ more) e in
      let at_third : drop third (numbers_of t) ≡ more =
      ap (λ k. drop k (numbers_of t)) (let same : third ≡ second + length (counted_pairs s.gotos) = omega arith in same) ∙ drop_part (numbers_of t) second (counted_pairs s.gotos) more at_second in
      ap (with_shifts (numbers_of t) place) (counted_there 2 (numbers_of t) place (length s.shifts) shifts (counted_pairs s.gotos ++ more) e (sym (length-pair_numbers s.shifts)))
      ∙ ap (with_gotos (numbers_of t) second shifts) (counted_there 2 (numbers_of t) second (length s.gotos) gotos more at_second (sym (length-pair_numbers s.gotos)))
      ∙ ap (with_reductions shifts gotos) (counted_there 2 (numbers_of t) third (length s.reductions) reductions rest at_third (sym (length-pair_numbers s.reductions)))

  -- the lists of a state
  pub state_there : (n : ℕ) (s : NumberedState) → slice_get t.states n ≡ Some s → block_of (numbers_of t) (counts t) n ≡ Some (lists_of_state s)
  state_there n s e =
      ap (λ b. cond b (block_at (numbers_of t) (slice_get (numbers_of t) (8 + length t.sets + n))) None) (lt-ltb n (length t.states) (slice_get_within t.states n s e))
      ∙ ap (block_at (numbers_of t)) (state_place n s e)
      ∙ three_lists (first_state_place t + length (flat_map state_block (take n t.states))) s (flat_map state_block (drop (suc n) t.states) ++ lists) (state_numbers n s e)

  -- there are no others
  pub no_state : (n : ℕ) → length t.states ≤ n → block_of (numbers_of t) (counts t) n ≡ None
  no_state n past = ap (λ b. cond b (block_at (numbers_of t) (slice_get (numbers_of t) (8 + length t.sets + n))) None) (le-ltb n (length t.states) past)

  -- ---- sets
  set_numbers : (k : ℕ) (tokens : List ℕ) → slice_get t.sets k ≡ Some tokens → drop (first_set_place t + length (flat_map set_block (take k t.sets))) (numbers_of t) ≡ length tokens ∷ tokens ++ (flat_map set_block (drop (suc k) t.sets) ++ (states ++ lists))
  set_numbers k tokens e =
      let m = length (flat_map set_block (take k t.sets)) in
      let rest = flat_map set_block (drop (suc k) t.sets) in
      let there = block_there set_block t.sets k tokens e in
      let left = length-drop m sets in
      let long : length (drop m sets) ≡ suc (length (tokens ++ rest)) = ap length there in
      let within : m ≤ length sets = omega (arith, left, long) in
      from_sets m
      ∙ drop-append-le m sets (states ++ lists) within
      ∙ ap (λ (l : List ℕ). l ++ (states ++ lists)) there
      ∙ append_assoc (set_block tokens) rest (states ++ lists)

  -- the tokens of a set
  pub set_there : (k : ℕ) (tokens : List ℕ) → slice_get t.sets k ≡ Some tokens → set_of (numbers_of t) (counts t) k ≡ Some tokens
  set_there k tokens e =
      ap (λ b. cond b (set_at (numbers_of t) (slice_get (numbers_of t) (8 + k))) None) (lt-ltb k (length t.sets) (slice_get_within t.sets k tokens e))
      ∙ ap (set_at (numbers_of t)) (after_head k ∙ get_within set_places (state_places ++ (list_places ++ (sides ++ blocks))) k _ (place_of set_block (first_set_place t) t.sets k tokens e))
      ∙ counted_there 1 (numbers_of t) (first_set_place t + length (flat_map set_block (take k t.sets))) (length tokens) tokens (flat_map set_block (drop (suc k) t.sets) ++ (states ++ lists)) (set_numbers k tokens e) (let same : 1 * length tokens ≡ length tokens = omega arith in same)

  -- there are no others
  pub no_set : (k : ℕ) → length t.sets ≤ k → set_of (numbers_of t) (counts t) k ≡ None
  no_set k past = ap (λ b. cond b (set_at (numbers_of t) (slice_get (numbers_of t) (8 + k))) None) (le-ltb k (length t.sets) past)

  -- ---- productions
  -- a number of the productions
  side_number : (j x : ℕ) → slice_get (sides ++ blocks) j ≡ Some x → slice_get (numbers_of t) (8 + length t.sets + length t.states + length t.items + j) ≡ Some x
  side_number j x e =
      let one = length-places set_block (first_set_place t) t.sets in
      let two = length-places state_block (first_state_place t) t.states in
      let three = length-places item_block (first_list_place t) t.items in
      let same : 8 + length t.sets + length t.states + length t.items + j ≡ 8 + (length set_places + (length state_places + (length list_places + j))) = omega (arith, one, two, three) in
      ap (slice_get (numbers_of t)) same
      ∙ after_head (length set_places + (length state_places + (length list_places + j)))
      ∙ get_after set_places (state_places ++ (list_places ++ (sides ++ blocks))) (length state_places + (length list_places + j))
      ∙ get_after state_places (list_places ++ (sides ++ blocks)) (length list_places + j)
      ∙ get_after list_places (sides ++ blocks) j
      ∙ e

  -- the nonterminal of a production, and the length of its right side
  pub side_there : (p : ℕ) (side : ℕ × ℕ) → slice_get t.productions p ≡ Some side → side_of (numbers_of t) (counts t) p ≡ Some side
  side_there p side e =
      let both = pair_at t.productions blocks p side e in
      let place = side_place (counts t) p in
      let next : place + 1 ≡ 8 + length t.sets + length t.states + length t.items + (2 * p + 1) = omega arith in
      ap (λ b. cond b (pair_of (slice_get (numbers_of t) place) (slice_get (numbers_of t) (place + 1))) None) (lt-ltb p (length t.productions) (slice_get_within t.productions p side e))
      ∙ ap (λ o. pair_of o (slice_get (numbers_of t) (place + 1))) (side_number (2 * p) side.0 both.0)
      ∙ ap (pair_of (Some side.0)) (ap (slice_get (numbers_of t)) next ∙ side_number (2 * p + 1) side.1 both.1)

  -- there are no others
  pub no_side : (p : ℕ) → length t.productions ≤ p → side_of (numbers_of t) (counts t) p ≡ None
  no_side p past = ap (λ b. cond b (pair_of (slice_get (numbers_of t) (side_place (counts t) p)) (slice_get (numbers_of t) (side_place (counts t) p + 1))) None) (le-ltb p (length t.productions) past)
