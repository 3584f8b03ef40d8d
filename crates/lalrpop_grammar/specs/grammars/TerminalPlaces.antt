-- The places of terminals, as a map.
use Rattle.std.specs.Prelude.{◌≡◌, ℕ, ◌<◌, List, length, slice_get, Option, Some, position}
use Rattle.std.specs.BTreeMap.{BTreeMap, get}
use Rattle.lalrpop_collections.specs.lists.Places.{IsFirstRepeat, IsNumbered}
use Rattle.lalrpop_grammar.specs.declared.repr.TerminalString.{TerminalString}
use Rattle.lalrpop_grammar.specs.declared.repr.terminals.Indexed.{Indexed}
use Rattle.lalrpop_grammar.specs.declared.repr.terminals.Indexed.TheVariants.{Places, Repeat}
use Rattle.lalrpop_grammar.specs.contracts.repr.TerminalStringOrd.TheImpl as terminal
use Rattle.lalrpop_grammar.specs.contracts.repr.TerminalStringPartialEq.TheImpl as terminal_eq

-- the first place of a terminal in a list, if it has one
abbrev pub place_in : List TerminalString → TerminalString → Option ℕ
place_in terminals t = position (λ x. terminal_eq.ghosts.eq x t) terminals

-- the map has exactly the terminals of the first n places, each with its place
pub record HasPlaces (xs : List TerminalString) (n : ℕ) (places : BTreeMap TerminalString ℕ) : Type 0 where
  pub sound : (t : TerminalString) (p : ℕ) → get terminal.ghosts.cmp places t ≡ Some p → (p < n) × (slice_get xs p ≡ Some t)
  pub complete : (t : TerminalString) (p : ℕ) → p < n → slice_get xs p ≡ Some t → get terminal.ghosts.cmp places t ≡ Some p

-- the places of all terminals, or the first place whose terminal is also at an earlier one
abbrev pub IsIndexed : List TerminalString → Indexed → Type 0
IsIndexed xs (Places places) = HasPlaces xs (length xs) places
IsIndexed xs (Repeat place) = (x : TerminalString) × IsFirstRepeat xs place x

-- the terminals all differ, there are few enough to number two more tokens, and the map has their
-- places
pub record AreTerminalPlaces (xs : List TerminalString) (places : BTreeMap TerminalString ℕ) : Type 0 where
  pub numbered : IsNumbered xs
  pub placed : HasPlaces xs (length xs) places
