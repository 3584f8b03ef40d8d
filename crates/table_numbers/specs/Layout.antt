-- The numbers of tables, and how they are laid out in a list.
use Rattle.std.specs.Prelude.{ℕ, ◌+◌, ◌*◌, List, [], ◌∷◌, ◌++◌, length}
use Rattle.std.specs.List.{flat_map}
use Rattle.table_numbers.specs.declared.tables.NumberedItem.{NumberedItem}
use Rattle.table_numbers.specs.declared.tables.NumberedState.{NumberedState}
use Rattle.table_numbers.specs.declared.tables.NumberedTables.{NumberedTables}

-- the two numbers of each pair, one pair after the other
abbrev pub pair_numbers : List (ℕ × ℕ) → List ℕ
pair_numbers pairs = flat_map (λ (p : ℕ × ℕ). p.0 ∷ p.1 ∷ []) pairs

-- how many pairs there are, and then their numbers
abbrev pub counted_pairs : List (ℕ × ℕ) → List ℕ
counted_pairs pairs = length pairs ∷ pair_numbers pairs

-- the block of a token set: how many tokens it has, and then their numbers
abbrev pub set_block : List ℕ → List ℕ
set_block tokens = length tokens ∷ tokens

-- the block of a state: its shifts, its gotos, and its reductions
abbrev pub state_block : NumberedState → List ℕ
state_block s = counted_pairs s.shifts ++ (counted_pairs s.gotos ++ counted_pairs s.reductions)

-- the three numbers of each item, one item after the other
abbrev pub item_numbers : List NumberedItem → List ℕ
item_numbers items = flat_map (λ (i : NumberedItem). i.production ∷ i.dot ∷ i.lookahead ∷ []) items

-- the block of a list of items: how many items there are, and then their numbers
abbrev pub item_block : List NumberedItem → List ℕ
item_block items = length items ∷ item_numbers items

-- the places of the blocks of a list, if the first is at a place
abbrev pub places_from : {A : Type 0} → (A → List ℕ) → ℕ → List A → List ℕ
places_from block at [] = []
places_from block at (x ∷ xs) = at ∷ places_from block (at + length (block x)) xs

-- the place of the first token set: after the head of 8 numbers, the place of each token set, of each
-- state and of each list of items, and the two numbers of each production
abbrev pub first_set_place : NumberedTables → ℕ
first_set_place t = 8 + (length t.sets + (length t.states + length t.items)) + 2 * length t.productions

-- the place of the first state: after the token sets
abbrev pub first_state_place : NumberedTables → ℕ
first_state_place t = first_set_place t + length (flat_map set_block t.sets)

-- the place of the first list of items: after the states
abbrev pub first_list_place : NumberedTables → ℕ
first_list_place t = first_state_place t + length (flat_map state_block t.states)

-- the head: the mark of tables (1280454996, the ASCII bytes of "LR1T"), the version, and how many lists
-- of items, terminals, nonterminals, productions, token sets and states there are
abbrev pub head_of : NumberedTables → List ℕ
head_of t = 1280454996 ∷ 1 ∷ length t.items ∷ t.terminals ∷ t.nonterminals ∷ length t.productions ∷ length t.sets ∷ length t.states ∷ []

-- the numbers of tables: the head, the places of the token sets, of the states and of the lists of
-- items, the productions, the token sets, the states, and the lists of items
abbrev pub numbers_of : NumberedTables → List ℕ
numbers_of t =
    head_of t ++ (places_from set_block (first_set_place t) t.sets ++ (places_from state_block (first_state_place t) t.states ++
    (places_from item_block (first_list_place t) t.items ++ (pair_numbers t.productions ++
    (flat_map set_block t.sets ++ (flat_map state_block t.states ++ flat_map item_block t.items))))))
