-- Productive nonterminals, which are the generating ones of Hopcroft, Motwani and Ullman, "Introduction to Automata Theory, Languages, and Computation", section 7.1.1, and how they are found (sections 7.1.2 and 7.4.3).
use Rattle.std.specs.Prelude.{◌≡◌, ◌⊎◌, ℕ, List, [], ◌∷◌, Contains, Some, slice_get}
use Rattle.lalrpop_collections.specs.declared.collections.walk.Walk.{Walk}
use Rattle.lalrpop_collections.specs.lists.Walks.{Visits}
use Rattle.lalrpop_grammar.specs.declared.repr.NonterminalString.{NonterminalString}
use Rattle.lalrpop_grammar.specs.declared.repr.Production.{Production}
use Rattle.lalrpop_grammar.specs.declared.repr.Symbol.{Symbol}
use Rattle.lalrpop_grammar.specs.declared.repr.Symbol.TheVariants.{Nonterminal}
use Rattle.lalrpop_grammar.specs.declared.repr.TerminalString.{TerminalString}
use Rattle.lalrpop_grammar.specs.grammars.Grammar.{Derives, terminal_symbols}
use Rattle.lalrpop_useful.specs.useful.Reachable.{HasProduction}
use Rattle.lalrpop_grammar.specs.grammars.Entries.{users_at, UserMap}

-- a nonterminal is productive if it derives a list of terminals
abbrev pub IsProductive : List Production → NonterminalString → Type 0
IsProductive g a = (w : List TerminalString) × Derives g (Nonterminal a ∷ []) (terminal_symbols w)

-- ---- the users of a nonterminal
-- a user is added under each nonterminal of the symbols, and no user is lost
pub record AddsUser (user : NonterminalString) (symbols : List Symbol) (old new : UserMap) : Type 0 where
  pub added : (a : NonterminalString) → Contains symbols (Nonterminal a) → Contains (users_at new a) user
  pub kept : (a b : NonterminalString) → Contains (users_at old a) b → Contains (users_at new a) b

-- the map has each nonterminal under those of its right sides
abbrev pub HasUsers : List Production → UserMap → Type 0
HasUsers ps users = (p : Production) → Contains ps p → (a : NonterminalString) → Contains p.symbols (Nonterminal a) → Contains (users_at users a) p.nonterminal

-- ---- the walk
-- each nonterminal of the symbols is one of the names
abbrev pub AreNonterminalsAmong : List NonterminalString → List Symbol → Type 0
AreNonterminalsAmong names symbols = (k : ℕ) (a : NonterminalString) → slice_get symbols k ≡ Some (Nonterminal a) → Contains names a

-- a nonterminal of the symbols waits
abbrev pub HasWaiting : List NonterminalString → List Symbol → Type 0
HasWaiting waiting symbols = (a : NonterminalString) × Contains symbols (Nonterminal a) × Contains waiting a

-- a production is tried: the walk goes to its nonterminal if it went to all those of the right side
pub data IsTried (p : Production) (old new : Walk NonterminalString) : Type 0 where
  left : new ≡ old → (AreNonterminalsAmong old.visited.keys p.symbols → Contains old.visited.keys p.nonterminal) → IsTried p old new
  came : AreNonterminalsAmong old.visited.keys p.symbols → Visits (λ a. p.nonterminal ≡ a) old new → IsTried p old new

-- each name is productive, and that of a production
pub record AreProductive (g : List Production) (names : List NonterminalString) : Type 0 where
  pub derives : (a : NonterminalString) → Contains names a → IsProductive g a
  pub named : (a : NonterminalString) → Contains names a → HasProduction g a

-- productions are tried in turn: what the walk goes to is productive, and one whose right side was visited has its own nonterminal visited, or a nonterminal of its right side waits
pub record AreTried (ps : List Production) (old new : Walk NonterminalString) : Type 0 where
  pub visits : Visits (λ a. Contains new.visited.keys a) old new
  pub right : (g : List Production) → ((p : Production) → Contains ps p → Contains g p) → AreProductive g old.visited.keys → AreProductive g new.visited.keys
  pub settled : (p : Production) → Contains ps p → AreNonterminalsAmong new.visited.keys p.symbols → Contains new.visited.keys p.nonterminal ⊎ HasWaiting new.waiting.items p.symbols
