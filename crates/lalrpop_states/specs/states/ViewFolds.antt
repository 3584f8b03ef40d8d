-- The longest and shortest lists of symbols of the items of a state, as loops find them.
use Rattle.std.specs.Prelude.{List, [], ◌∷◌, length, Option, Some, None, cond, nat_lt}
use Rattle.lalrpop_states.specs.states.Items.{Dotted}
use Rattle.lalrpop_states.specs.states.Views.{prefix_of, has_moved}
use Rattle.lalrpop_grammar.specs.declared.repr.Symbol.{Symbol}

-- the shorter list, or the first if both have the same length
abbrev pub shorter_of : {X : Type 0} → Option (List X) → List X → Option (List X)
shorter_of None next = Some next
shorter_of (Some best) next = cond (nat_lt (length next) (length best)) (Some next) (Some best)

-- the longer list, or the second if both have the same length
abbrev pub longer_of : {X : Type 0} → List X → List X → List X
longer_of best next = cond (nat_lt (length next) (length best)) best next

module _ {L : Type 0} where
  -- the shorter of the best list so far and the list of an item, if its dot is past the start
  abbrev pub shorter_step : (Dotted L → List Symbol) → Option (List Symbol) → Dotted L → Option (List Symbol)
  shorter_step view best item = cond (has_moved item) (shorter_of best (view item)) best

  -- the shortest of the best list so far and the lists of the items whose dot is past the start
  abbrev pub shortest_from : (Dotted L → List Symbol) → Option (List Symbol) → List (Dotted L) → Option (List Symbol)
  shortest_from view best [] = best
  shortest_from view best (item ∷ items) = shortest_from view (shorter_step view best item) items

  -- the longest of the best list so far and the lists of symbols before the dots
  abbrev pub longest_from : List Symbol → List (Dotted L) → List Symbol
  longest_from best [] = best
  longest_from best (item ∷ items) = longest_from (longer_of best (prefix_of item)) items
