-- Different tables have different numbers.
use Rattle.std.proofs.Common.{◌≡◌, ℕ, ◌+◌, List, [], ◌∷◌, ◌++◌, length, refl, sym, ◌∙◌, ap, arith, append_assoc}
use Rattle.std.specs.List.{flat_map}
use Rattle.table_numbers.specs.Layout.{counted_pairs, first_list_place, first_set_place, first_state_place, head_of, item_block, item_numbers, numbers_of, pair_numbers, places_from, set_block, state_block}
use Rattle.table_numbers.specs.declared.tables.NumberedItem.{NumberedItem}
use Rattle.table_numbers.specs.declared.tables.NumberedState.{NumberedState}
use Rattle.table_numbers.specs.declared.tables.NumberedTables.{NumberedTables}

-- equal lists with first parts of equal lengths have equal parts
both_parts : (xs us ys vs : List ℕ) → length xs ≡ length us → xs ++ ys ≡ us ++ vs → (xs ≡ us) × (ys ≡ vs)
both_parts [] [] ys vs l e = (refl, e)
both_parts [] (u ∷ us) ys vs l e = absurd (omega (arith, l))
both_parts (x ∷ xs) [] ys vs l e = absurd (omega (arith, l))
both_parts (x ∷ xs) (u ∷ us) ys vs l e =
    let first : x ≡ u = cc in
    let others : xs ++ ys ≡ us ++ vs = cc in
    let rest = both_parts xs us ys vs (omega (arith, l)) others in
    (ap (λ (z : ℕ). z ∷ xs) first ∙ ap (λ (zs : List ℕ). u ∷ zs) rest.0, rest.1)

-- so it is with the numbers of as many pairs
one_pairs : (ps qs : List (ℕ × ℕ)) (ys vs : List ℕ) → length ps ≡ length qs → pair_numbers ps ++ ys ≡ pair_numbers qs ++ vs → (ps ≡ qs) × (ys ≡ vs)
one_pairs [] [] ys vs l e = (refl, e)
one_pairs [] (q ∷ qs) ys vs l e = absurd (omega (arith, l))
one_pairs (p ∷ ps) [] ys vs l e = absurd (omega (arith, l))
one_pairs (p ∷ ps) (q ∷ qs) ys vs l e =
    let first : p.0 ≡ q.0 = cc in
    let second : p.1 ≡ q.1 = cc in
    let others : pair_numbers ps ++ ys ≡ pair_numbers qs ++ vs = cc in
    let rest = one_pairs ps qs ys vs (omega (arith, l)) others in
    let same : p ≡ q = ap (λ (a : ℕ). (a, p.1)) first ∙ ap (λ (b : ℕ). (q.0, b)) second in
    (ap (λ (z : ℕ × ℕ). z ∷ ps) same ∙ ap (λ (zs : List (ℕ × ℕ)). q ∷ zs) rest.0, rest.1)

-- with counted lists of pairs
one_counted : (ps qs : List (ℕ × ℕ)) (ys vs : List ℕ) → counted_pairs ps ++ ys ≡ counted_pairs qs ++ vs → (ps ≡ qs) × (ys ≡ vs)
one_counted ps qs ys vs e =
    let count : length ps ≡ length qs = cc in
    let others : pair_numbers ps ++ ys ≡ pair_numbers qs ++ vs = cc in
    one_pairs ps qs ys vs count others

same_item : (i j : NumberedItem) → i.production ≡ j.production → i.dot ≡ j.dot → i.lookahead ≡ j.lookahead → i ≡ j
same_item i j a b c =
    ap (λ (x : ℕ). let r : NumberedItem = record { production = x; dot = i.dot; lookahead = i.lookahead } in r) a
    ∙ ap (λ (x : ℕ). let r : NumberedItem = record { production = j.production; dot = x; lookahead = i.lookahead } in r) b
    ∙ ap (λ (x : ℕ). let r : NumberedItem = record { production = j.production; dot = j.dot; lookahead = x } in r) c

-- with the numbers of as many items
one_items : (is js : List NumberedItem) (ys vs : List ℕ) → length is ≡ length js → item_numbers is ++ ys ≡ item_numbers js ++ vs → (is ≡ js) × (ys ≡ vs)
one_items [] [] ys vs l e = (refl, e)
one_items [] (j ∷ js) ys vs l e = absurd (omega (arith, l))
one_items (i ∷ is) [] ys vs l e = absurd (omega (arith, l))
one_items (i ∷ is) (j ∷ js) ys vs l e =
    let first : i.production ≡ j.production = cc in
    let second : i.dot ≡ j.dot = cc in
    let third : i.lookahead ≡ j.lookahead = cc in
    let others : item_numbers is ++ ys ≡ item_numbers js ++ vs = cc in
    let rest = one_items is js ys vs (omega (arith, l)) others in
    (ap (λ (z : NumberedItem). z ∷ is) (same_item i j first second third) ∙ ap (λ (zs : List NumberedItem). j ∷ zs) rest.0, rest.1)

-- with the block of a list of items
one_list : (is js : List NumberedItem) (ys vs : List ℕ) → item_block is ++ ys ≡ item_block js ++ vs → (is ≡ js) × (ys ≡ vs)
one_list is js ys vs e =
    let count : length is ≡ length js = cc in
    let others : item_numbers is ++ ys ≡ item_numbers js ++ vs = cc in
    one_items is js ys vs count others

-- with the block of a token set
one_set : (s t ys vs : List ℕ) → set_block s ++ ys ≡ set_block t ++ vs → (s ≡ t) × (ys ≡ vs)
one_set s t ys vs e =
    let count : length s ≡ length t = cc in
    let others : s ++ ys ≡ t ++ vs = cc in
    both_parts s t ys vs count others

split_state : (s : NumberedState) (ys : List ℕ) → state_block s ++ ys ≡ counted_pairs s.shifts ++ (counted_pairs s.gotos ++ (counted_pairs s.reductions ++ ys))
split_state s ys =
    append_assoc (counted_pairs s.shifts) (counted_pairs s.gotos ++ counted_pairs s.reductions) ys
    ∙ ap (λ (zs : List ℕ). counted_pairs s.shifts ++ zs) (append_assoc (counted_pairs s.gotos) (counted_pairs s.reductions) ys)

-- with the block of a state
one_state : (s t : NumberedState) (ys vs : List ℕ) → state_block s ++ ys ≡ state_block t ++ vs → (s ≡ t) × (ys ≡ vs)
one_state s t ys vs e =
    let shifts = one_counted s.shifts t.shifts (counted_pairs s.gotos ++ (counted_pairs s.reductions ++ ys)) (counted_pairs t.gotos ++ (counted_pairs t.reductions ++ vs)) (sym (split_state s ys) ∙ e ∙ split_state t vs) in
    let gotos = one_counted s.gotos t.gotos (counted_pairs s.reductions ++ ys) (counted_pairs t.reductions ++ vs) shifts.1 in
    let reductions = one_counted s.reductions t.reductions ys vs gotos.1 in
    let same : s ≡ t =
    ap (λ (x : List (ℕ × ℕ)). let r : NumberedState = record { shifts = x; gotos = s.gotos; reductions = s.reductions } in r) shifts.0
    ∙ ap (λ (x : List (ℕ × ℕ)). let r : NumberedState = record { shifts = t.shifts; gotos = x; reductions = s.reductions } in r) gotos.0
    ∙ ap (λ (x : List (ℕ × ℕ)). let r : NumberedState = record { shifts = t.shifts; gotos = t.gotos; reductions = x } in r) reductions.0 in
    (same, reductions.1)

module _ {A : Type 0} (block : A → List ℕ) where
  pub length-places : (at : ℕ) (xs : List A) → length (places_from block at xs) ≡ length xs
  length-places at [] = refl
  length-places at (x ∷ xs) = let rest = length-places (at + length (block x)) xs in omega (arith, rest)

  -- with as many blocks
  one_blocks : ((x z : A) (ys vs : List ℕ) → block x ++ ys ≡ block z ++ vs → (x ≡ z) × (ys ≡ vs)) → (xs zs : List A) (ys vs : List ℕ) → length xs ≡ length zs → flat_map block xs ++ ys ≡ flat_map block zs ++ vs → (xs ≡ zs) × (ys ≡ vs)
  one_blocks one [] [] ys vs l e = (refl, e)
  one_blocks one [] (z ∷ zs) ys vs l e = absurd (omega (arith, l))
  one_blocks one (x ∷ xs) [] ys vs l e = absurd (omega (arith, l))
  one_blocks one (x ∷ xs) (z ∷ zs) ys vs l e =
      let first = one x z (flat_map block xs ++ ys) (flat_map block zs ++ vs) (sym (append_assoc (block x) (flat_map block xs) ys) ∙ e ∙ append_assoc (block z) (flat_map block zs) vs) in
      let rest = one_blocks one xs zs ys vs (omega (arith, l)) first.1 in
      (ap (λ (y : A). y ∷ xs) first.0 ∙ ap (λ (ys : List A). z ∷ ys) rest.0, rest.1)

  one_places : (at by : ℕ) (xs zs : List A) (ys vs : List ℕ) → length xs ≡ length zs → places_from block at xs ++ ys ≡ places_from block by zs ++ vs → ys ≡ vs
  one_places at by xs zs ys vs l e = (both_parts (places_from block at xs) (places_from block by zs) ys vs (length-places at xs ∙ l ∙ sym (length-places by zs)) e).1

append_nil : (xs : List ℕ) → xs ++ [] ≡ xs
append_nil [] = refl
append_nil (x ∷ xs) = ap (λ (ys : List ℕ). x ∷ ys) (append_nil xs)

same_tables : (t u : NumberedTables) → t.terminals ≡ u.terminals → t.nonterminals ≡ u.nonterminals → t.productions ≡ u.productions → t.sets ≡ u.sets → t.states ≡ u.states → t.items ≡ u.items → t ≡ u
same_tables t u a b c d e f =
    ap (λ (x : ℕ). let r : NumberedTables = record { terminals = x; nonterminals = t.nonterminals; productions = t.productions; sets = t.sets; states = t.states; items = t.items } in r) a
    ∙ ap (λ (x : ℕ). let r : NumberedTables = record { terminals = u.terminals; nonterminals = x; productions = t.productions; sets = t.sets; states = t.states; items = t.items } in r) b
    ∙ ap (λ (x : List (ℕ × ℕ)). let r : NumberedTables = record { terminals = u.terminals; nonterminals = u.nonterminals; productions = x; sets = t.sets; states = t.states; items = t.items } in r) c
    ∙ ap (λ (x : List (List ℕ)). let r : NumberedTables = record { terminals = u.terminals; nonterminals = u.nonterminals; productions = u.productions; sets = x; states = t.states; items = t.items } in r) d
    ∙ ap (λ (x : List NumberedState). let r : NumberedTables = record { terminals = u.terminals; nonterminals = u.nonterminals; productions = u.productions; sets = u.sets; states = x; items = t.items } in r) e
    ∙ ap (λ (x : List (List NumberedItem)). let r : NumberedTables = record { terminals = u.terminals; nonterminals = u.nonterminals; productions = u.productions; sets = u.sets; states = u.states; items = x } in r) f

-- the numbers of tables are those of no others
pub one_tables : (t u : NumberedTables) → numbers_of t ≡ numbers_of u → t ≡ u
one_tables t u e =
    let rest_of : NumberedTables → List ℕ = λ x. places_from set_block (first_set_place x) x.sets ++ (places_from state_block (first_state_place x) x.states ++ (places_from item_block (first_list_place x) x.items ++ (pair_numbers x.productions ++ (flat_map set_block x.sets ++ (flat_map state_block x.states ++ flat_map item_block x.items))))) in
    let heads = both_parts (head_of t) (head_of u) (rest_of t) (rest_of u) refl e in
    let head = heads.0 in
    let lists : length t.items ≡ length u.items = cc in
    let terminals : t.terminals ≡ u.terminals = cc in
    let nonterminals : t.nonterminals ≡ u.nonterminals = cc in
    let productions : length t.productions ≡ length u.productions = cc in
    let sets : length t.sets ≡ length u.sets = cc in
    let states : length t.states ≡ length u.states = cc in
    let after_sets = one_places set_block (first_set_place t) (first_set_place u) t.sets u.sets _ _ sets heads.1 in
    let after_states = one_places state_block (first_state_place t) (first_state_place u) t.states u.states _ _ states after_sets in
    let after_places = one_places item_block (first_list_place t) (first_list_place u) t.items u.items _ _ lists after_states in
    let sides = one_pairs t.productions u.productions _ _ productions after_places in
    let blocks = one_blocks set_block one_set t.sets u.sets (flat_map state_block t.states ++ flat_map item_block t.items) (flat_map state_block u.states ++ flat_map item_block u.items) sets sides.1 in
    let others = one_blocks state_block one_state t.states u.states (flat_map item_block t.items) (flat_map item_block u.items) states blocks.1 in
    let last = one_blocks item_block one_list t.items u.items [] [] lists (append_nil (flat_map item_block t.items) ∙ others.1 ∙ sym (append_nil (flat_map item_block u.items))) in
    same_tables t u terminals nonterminals sides.0 blocks.0 others.0 last.0
