-- Undefined nonterminals: Grune and Jacobs, "Parsing Techniques", section 2.9.5, on the hygiene of grammars.
use Rattle.std.specs.Prelude.{◌≡◌, ◌⊎◌, List, ◌∷◌, ◌++◌, map, Contains}
use Rattle.lalrpop_collections.specs.lists.Places.{AllDiffer}
use Rattle.lalrpop_grammar.specs.declared.repr.NonterminalString.{NonterminalString}
use Rattle.lalrpop_grammar.specs.declared.repr.Production.{Production}
use Rattle.lalrpop_grammar.specs.declared.repr.Symbol.{Symbol}
use Rattle.lalrpop_grammar.specs.declared.repr.Symbol.TheVariants.{Nonterminal}
use Rattle.lalrpop_useful.specs.useful.Reachable.{HasProduction, IsOnRightSide}

-- a nonterminal is undefined if it is on a right side and has no production
abbrev pub IsUndefined : List Production → NonterminalString → Type 0
IsUndefined g a = IsOnRightSide g a × (HasProduction g a → ⊥)

-- the first of some productions whose right side has a nonterminal
pub record IsFirstUse (ps : List Production) (a : NonterminalString) (p : Production) : Type 0 where
  pub before : List Production
  pub after : List Production
  pub whole : ps ≡ before ++ p ∷ after
  pub uses : Contains p.symbols (Nonterminal a)
  pub earlier : IsOnRightSide before a → ⊥

-- the names of a list of uses
abbrev pub names_of : List (NonterminalString × Production) → List NonterminalString
names_of uses = map (λ (u : NonterminalString × Production). u.0) uses

-- a use by a production, of a nonterminal without one that has no use in the list
pub record IsNewUse (g : List Production) (p : Production) (symbols : List Symbol) (old : List (NonterminalString × Production)) (u : NonterminalString × Production) : Type 0 where
  pub by : u.1 ≡ p
  pub on : Contains symbols (Nonterminal u.0)
  pub none : HasProduction g u.0 → ⊥
  pub new : Contains (names_of old) u.0 → ⊥

-- what is added to a list of uses by some symbols of a production: a use of each of them that is a nonterminal without a production and has no use in the list yet
pub record AddsUndefined (g : List Production) (p : Production) (symbols : List Symbol) (old new : List (NonterminalString × Production)) : Type 0 where
  pub kept : (u : NonterminalString × Production) → Contains old u → Contains new u
  pub from : (u : NonterminalString × Production) → Contains new u → Contains old u ⊎ IsNewUse g p symbols old u
  pub all : (a : NonterminalString) → (HasProduction g a → ⊥) → Contains symbols (Nonterminal a) → Contains (names_of new) a
  pub differ : AllDiffer (names_of old) → AllDiffer (names_of new)
