-- The results of the steps that number a grammar.
use Rattle.std.specs.Prelude.{◌≡◌, ◌+◌, ◌↔◌, ◌⊎◌, ℕ, List, [], length, map, slice_get, Option, Some, MatchOption, Contains}
use Rattle.std.specs.declared.alloc.Global.{Global}
use Rattle.std.specs.declared.vec.Vec.{Vec}
use Rattle.std.specs.List.{range_with_len}
use Rattle.lalrpop_states.specs.states.Items.{Dotted, with_dot}
use Rattle.lalrpop_states.specs.declared.lookahead.nil.Nil.{Nil}
use Rattle.lalrpop_grammar.specs.declared.repr.Production.{Production}
use Rattle.lalrpop_grammar.specs.declared.repr.Symbol.{Symbol}
use Rattle.lalrpop_grammar.specs.declared.repr.Symbol.TheVariants.{Nonterminal}
use Rattle.lalrpop_numbers.specs.numbers.Numbers.{AreExpansions, IsNumberBehind}

-- the new list has the values of the old one and the values that are such, and no others
abbrev pub AddsThose : {X : Type 0} → (X → Type 0) → List X → List X → Type 0
AddsThose {X} Such old new = (x : X) → Contains new x ↔ (Contains old x ⊎ Such x)

-- the production with its dot at each place, from the start to the end
abbrev pub with_dots : Production → List (Dotted Nil)
with_dots p = map (with_dot p) (range_with_len 0 (length p.symbols + 1))

-- the production of an item with its dot at each place
abbrev pub all_dots : Dotted Nil → List (Dotted Nil)
all_dots i = with_dots i.production

-- the item is one of the productions, with the dot at the start
abbrev pub IsStartOf : List Production → Dotted Nil → Type 0
IsStartOf ps i = Contains ps i.production × (i.index ≡ 0)

-- ---- symbols
-- the number is the symbol's place in the list, and there is none if the symbol is not in the list
abbrev pub IsNumberOf : List Symbol → Symbol → Option ℕ → Type 0
IsNumberOf symbols s number = MatchOption number (¬ Contains symbols s) (λ x. slice_get symbols x ≡ Some s)

-- the list has, for each dotted production, the number of the symbol after its dot
pub record AreNumbersBehind (symbols : List Symbol) (items : List (Dotted Nil)) (behind : List (Option ℕ)) : Type 0 where
  pub counted : length behind ≡ length items
  pub each : (k : ℕ) (i : Dotted Nil) (x : Option ℕ) → slice_get items k ≡ Some i → slice_get behind k ≡ Some x → IsNumberBehind symbols i x

-- ---- expansions
-- the item is a production of the nonterminal that the symbol is, with the dot at the start
abbrev pub IsStartFrom : Symbol → Dotted Nil → Type 0
IsStartFrom s i = (i.index ≡ 0) × (s ≡ Nonterminal i.production.nonterminal)

-- the lists of the vectors
abbrev pub lists_of : List (Vec ℕ Global) → List (List ℕ)
lists_of vectors = map (λ (v : Vec ℕ Global). v.items) vectors

-- there are as many lists as the number says, and each is empty
pub record AreEmpty (count : ℕ) (lists : List (List ℕ)) : Type 0 where
  pub counted : length lists ≡ count
  pub each : (x : ℕ) (list : List ℕ) → slice_get lists x ≡ Some list → list ≡ []

-- the number is added to the list of the nonterminal of the item's production, if the dot is at the
-- start and the nonterminal is one of the symbols
pub record AddsStart (symbols : List Symbol) (i : Dotted Nil) (number : ℕ) (old new : List (List ℕ)) : Type 0 where
  pub counted : length new ≡ length old
  pub each : (x : ℕ) (s : Symbol) (before after : List ℕ) → slice_get symbols x ≡ Some s → slice_get old x ≡ Some before → slice_get new x ≡ Some after → AddsThose (λ k. (k ≡ number) × IsStartFrom s i) before after

-- the list of each symbol has the numbers of its productions with the dot at the start
pub record AreAllExpansions (symbols : List Symbol) (items : List (Dotted Nil)) (lists : List (List ℕ)) : Type 0 where
  pub counted : length lists ≡ length symbols
  pub each : (x : ℕ) (s : Symbol) (numbers : List ℕ) → slice_get symbols x ≡ Some s → slice_get lists x ≡ Some numbers → AreExpansions items s numbers
