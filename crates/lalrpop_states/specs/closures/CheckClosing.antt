-- The closure of dotted productions without tokens.
-- Source: the closure of LR(0) items of Aho, Sethi and Ullman, section 4.7.
use Rattle.std.specs.Prelude.{◌≡◌, ◌↔◌, ◌<◌, ℕ, List, map, slice_get, Some, Contains}
use Rattle.lalrpop_grammar.specs.closures.Closures.{InClosure}
use Rattle.lalrpop_grammar.specs.grammars.WellFormed.{productions, productions_of}
use Rattle.lalrpop_collections.specs.lists.Bits.{Bits}
use Rattle.lalrpop_states.specs.states.Items.{Dotted, dotted_of}
use Rattle.lalrpop_states.specs.declared.lookahead.nil.Nil.{Nil}
use Rattle.lalrpop_grammar.specs.declared.repr.NonterminalString.{NonterminalString}
use Rattle.lalrpop_grammar.specs.declared.repr.Production.{Production}
use Rattle.lalrpop_grammar.specs.declared.repr.Symbol.TheVariants.{Nonterminal}
use Rattle.lalrpop_grammar.specs.declared.repr.grammar.Grammar.{Grammar}

-- the item has one of the productions, with the dot at the start
pub record IsOneAtStart (ps : List Production) (k : Dotted Nil) : Type 0 where
  pub start : k.index ≡ 0
  pub among : Contains ps k.production

-- the second item has a production of the nonterminal after the dot of the first, with the dot at
-- the start
pub record IsExpansionOf (g : Grammar) (item k : Dotted Nil) : Type 0 where
  pub name : NonterminalString
  pub behind : slice_get item.production.symbols item.index ≡ Some (Nonterminal name)
  pub begun : IsOneAtStart (productions_of g name) k

-- the dotted production is among the listed ones, and its dot is past the start
abbrev pub IsMovedIn : List (Production × ℕ) → Production → ℕ → Type 0
IsMovedIn items p dot = (0 < dot) × Contains items (p, dot)

-- the dotted production is that of a listed item, and its dot is past the start
abbrev pub IsMovedOf : List (Dotted Bits) → Dotted Nil → Type 0
IsMovedOf items k = IsMovedIn (map dotted_of items) k.production k.index

-- the keys are exactly the dotted productions of the closure of the kernel
abbrev pub AreClosure : Grammar → (Production → ℕ → Type 0) → List (Dotted Nil) → Type 0
AreClosure g kernel keys = (k : Dotted Nil) → Contains keys k ↔ InClosure (productions g) kernel k.production k.index
