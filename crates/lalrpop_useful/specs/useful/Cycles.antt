-- Cyclic nonterminals: Aho and Ullman, "The Theory of Parsing, Translation, and Compiling", volume 1, section 2.4.2, and the loops of Grune and Jacobs, "Parsing Techniques", section 2.9.5.
use Rattle.std.specs.Prelude.{◌≡◌, ◌↔◌, ◌⊎◌, ℕ, suc, List, [], ◌∷◌, take, drop, slice_get, Some, Contains}
use Rattle.lalrpop_grammar.specs.declared.repr.NonterminalString.{NonterminalString}
use Rattle.lalrpop_grammar.specs.declared.repr.Production.{Production}
use Rattle.lalrpop_grammar.specs.declared.repr.Symbol.{Symbol}
use Rattle.lalrpop_grammar.specs.declared.repr.Symbol.TheVariants.{Nonterminal}
use Rattle.lalrpop_grammar.specs.grammars.Grammar.{Derives, IsNullable}

-- a nonterminal derives another alone, in at least one step: one of its productions, and any number of steps from the right side of that
abbrev pub DerivesAlone : List Production → NonterminalString → NonterminalString → Type 0
DerivesAlone g a b = (p : Production) × Contains g p × (p.nonterminal ≡ a) × Derives g p.symbols (Nonterminal b ∷ [])

-- a nonterminal is cyclic if it derives itself in at least one step
abbrev pub IsCyclic : List Production → NonterminalString → Type 0
IsCyclic g a = DerivesAlone g a a

-- at a place of a list is a nonterminal, and what is before and after it is nullable
abbrev pub IsAloneAt : List Production → List Symbol → ℕ → NonterminalString → Type 0
IsAloneAt g l k b = (slice_get l k ≡ Some (Nonterminal b)) × IsNullable g (take k l) × IsNullable g (drop (suc k) l)

-- so it is at some place
abbrev pub IsAlone : List Production → List Symbol → NonterminalString → Type 0
IsAlone g l b = (k : ℕ) × IsAloneAt g l k b

-- so it is on the right side of one of these productions
abbrev pub IsAloneOn : List Production → List Production → NonterminalString → Type 0
IsAloneOn g ps b = (p : Production) × Contains ps p × IsAlone g p.symbols b

-- a nonterminal is added to a list of names if it is cyclic, and nothing else is
abbrev pub AddsCyclic : List Production → NonterminalString → List NonterminalString → List NonterminalString → Type 0
AddsCyclic g a old new = (b : NonterminalString) → Contains new b ↔ (Contains old b ⊎ ((a ≡ b) × IsCyclic g b))
