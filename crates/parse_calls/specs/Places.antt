-- What a list of numbers has at its places, by the layout of tables as numbers. The list may be any.
use Rattle.std.specs.Prelude.{◌+◌, ◌*◌, ◌==◌, ◌&&◌, ℕ, Bool, cond, nat_le, nat_lt, List, length, slice_get, slice_index, slice_range, Option, Some, None}
use Rattle.parse_calls.specs.declared.places.Counts.{Counts}

-- whether a list begins as tables do: with their mark and the version 1
abbrev pub is_marked : List ℕ → Bool
is_marked numbers = nat_le 8 (length numbers) && (slice_index numbers 0 == 1280454996) && (slice_index numbers 1 == 1)

-- the counts of the head, if a list begins as tables do
abbrev pub counts_of : List ℕ → Option Counts
counts_of numbers = cond (is_marked numbers) (Some (record {
  lists = slice_index numbers 2;
  terminals = slice_index numbers 3;
  nonterminals = slice_index numbers 4;
  productions = slice_index numbers 5;
  sets = slice_index numbers 6;
  states = slice_index numbers 7;
})) None

-- so many numbers from a place on, if a list has them
abbrev pub part : List ℕ → ℕ → ℕ → Option (List ℕ)
part numbers place count = cond (nat_le (place + count) (length numbers)) (Some (slice_range numbers place (place + count))) None

-- the numbers of items after a place, if their count is known
abbrev pub items_after : ℕ → List ℕ → ℕ → Option ℕ → Option (List ℕ)
items_after each numbers place None = None
items_after each numbers place (Some count) = part numbers (place + 1) (each * count)

-- the numbers of a counted list at a place, of which each item has so many numbers
abbrev pub counted_at : ℕ → List ℕ → ℕ → Option (List ℕ)
counted_at each numbers place = items_after each numbers place (slice_get numbers place)

-- the shifts, the gotos and the reductions of a state, each as the numbers of pairs
pub record Lists : Type 0 where
  pub shifts : List ℕ
  pub gotos : List ℕ
  pub reductions : List ℕ

-- the place after a counted list at a place
abbrev pub after : ℕ → List ℕ → ℕ
after place list = place + 1 + length list

-- the lists of a state, if the last one is known
abbrev pub with_reductions : List ℕ → List ℕ → Option (List ℕ) → Option Lists
with_reductions shifts gotos None = None
with_reductions shifts gotos (Some reductions) = Some (record { shifts = shifts; gotos = gotos; reductions = reductions })

-- the lists of a state, if the second one is known and the last one is after it
abbrev pub with_gotos : List ℕ → ℕ → List ℕ → Option (List ℕ) → Option Lists
with_gotos numbers place shifts None = None
with_gotos numbers place shifts (Some gotos) = with_reductions shifts gotos (counted_at 2 numbers (after place gotos))

-- the lists of a state, if the first one is known and the others are after it
abbrev pub with_shifts : List ℕ → ℕ → Option (List ℕ) → Option Lists
with_shifts numbers place None = None
with_shifts numbers place (Some shifts) = with_gotos numbers (after place shifts) shifts (counted_at 2 numbers (after place shifts))

-- the lists of the state whose block is at a place
abbrev pub block_at : List ℕ → Option ℕ → Option Lists
block_at numbers None = None
block_at numbers (Some place) = with_shifts numbers place (counted_at 2 numbers place)

-- the lists of the state with a number, if there is one
abbrev pub block_of : List ℕ → Counts → ℕ → Option Lists
block_of numbers counts state = cond (nat_lt state counts.states) (block_at numbers (slice_get numbers (8 + counts.sets + state))) None

-- the tokens of the set whose block is at a place
abbrev pub set_at : List ℕ → Option ℕ → Option (List ℕ)
set_at numbers None = None
set_at numbers (Some place) = counted_at 1 numbers place

-- the tokens of the set with a number, if there is one
abbrev pub set_of : List ℕ → Counts → ℕ → Option (List ℕ)
set_of numbers counts set = cond (nat_lt set counts.sets) (set_at numbers (slice_get numbers (8 + set))) None

-- two numbers as a pair, if both are known
abbrev pub pair_of : Option ℕ → Option ℕ → Option (ℕ × ℕ)
pair_of None second = None
pair_of (Some first) None = None
pair_of (Some first) (Some second) = Some (first, second)

-- the place of the nonterminal of the production with a number
abbrev pub side_place : Counts → ℕ → ℕ
side_place counts production = 8 + counts.sets + counts.states + counts.lists + 2 * production

-- the nonterminal of the production with a number and the length of its right side, if there is one
abbrev pub side_of : List ℕ → Counts → ℕ → Option (ℕ × ℕ)
side_of numbers counts production = cond (nat_lt production counts.productions) (pair_of (slice_get numbers (side_place counts production)) (slice_get numbers (side_place counts production + 1))) None
