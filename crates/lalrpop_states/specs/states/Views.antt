-- Summaries of the items of a state: the symbols before and after their dots, and the nonterminals
-- that they produce.
use Rattle.std.specs.Prelude.{◌≡◌, ℕ, ◌<◌, ◌≤◌, Bool, List, [], ◌∷◌, length, take, drop, slice_get, Option, Some, None, nat_lt}
use Rattle.std.specs.List.{filter}
use Rattle.lalrpop_states.specs.states.Items.{Dotted}
use Rattle.lalrpop_grammar.specs.declared.repr.NonterminalString.{NonterminalString}
use Rattle.lalrpop_grammar.specs.declared.repr.Symbol.{Symbol}

module _ {X : Type 0} where
  -- the list is one of the lists, none is longer, and those after it are shorter
  pub record IsLastLongest (lists : List (List X)) (list : List X) : Type 0 where
    pub place : ℕ
    pub there : slice_get lists place ≡ Some list
    pub longest : (k : ℕ) (other : List X) → slice_get lists k ≡ Some other → length other ≤ length list
    pub last : (k : ℕ) (other : List X) → place < k → slice_get lists k ≡ Some other → length other < length list

  -- the list is one of the lists, none is shorter, and those before it are longer
  pub record IsFirstShortest (lists : List (List X)) (list : List X) : Type 0 where
    pub place : ℕ
    pub there : slice_get lists place ≡ Some list
    pub shortest : (k : ℕ) (other : List X) → slice_get lists k ≡ Some other → length list ≤ length other
    pub first : (k : ℕ) (other : List X) → k < place → slice_get lists k ≡ Some other → length list < length other

  -- the list is the first shortest one of the lists, or empty if there are no lists
  abbrev pub IsFirstShortestOrEmpty : List (List X) → List X → Type 0
  IsFirstShortestOrEmpty [] list = list ≡ []
  IsFirstShortestOrEmpty (first ∷ lists) list = IsFirstShortest (first ∷ lists) list

-- there are names, and all of them are the given one
pub record AreAll (names : List NonterminalString) (name : NonterminalString) : Type 0 where
  pub some : 0 < length names
  pub each : (k : ℕ) (other : NonterminalString) → slice_get names k ≡ Some other → other ≡ name

-- the result is the one name that all names are, or none if there is no such name
abbrev pub IsOneName : List NonterminalString → Option NonterminalString → Type 0
IsOneName names (Some name) = AreAll names name
IsOneName names None = (name : NonterminalString) → AreAll names name → ⊥

module _ {L : Type 0} where
  -- the symbols before the dot
  abbrev pub prefix_of : Dotted L → List Symbol
  prefix_of item = take item.index item.production.symbols

  -- the symbols after the dot
  abbrev pub rest_of : Dotted L → List Symbol
  rest_of item = drop item.index item.production.symbols

  -- the nonterminal that the item produces
  abbrev pub nonterminal_of : Dotted L → NonterminalString
  nonterminal_of item = item.production.nonterminal

  -- whether the dot is past the start
  abbrev pub has_moved : Dotted L → Bool
  has_moved item = nat_lt 0 item.index

  -- the items with the dot past the start
  abbrev pub moved : List (Dotted L) → List (Dotted L)
  moved items = filter has_moved items
