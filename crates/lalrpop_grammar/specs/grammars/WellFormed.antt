-- Well-formed grammars, and the productions of a name.
use Rattle.std.specs.Prelude.{◌≡◌, ℕ, ◌<◌, List, [], slice_get, Option, Some, None, Contains, vec_len}
use Rattle.std.specs.declared.cmp.Ordering.{Ordering}
use Rattle.std.specs.Ordering.{nat_cmp}
use Rattle.std.specs.Cmp.Lexicographic.{slice_cmp}
use Rattle.std.specs.BTreeMap.{get}
use Rattle.std.specs.List.{flat_map}
use Rattle.lalrpop_collections.specs.lists.Places.{AllDiffer}
use Rattle.lalrpop_grammar.specs.declared.repr.NonterminalString.{NonterminalString}
use Rattle.lalrpop_grammar.specs.declared.repr.TerminalString.{TerminalString}
use Rattle.lalrpop_grammar.specs.declared.repr.Symbol.{Symbol}
use Rattle.lalrpop_grammar.specs.declared.repr.Symbol.TheVariants.{Terminal}
use Rattle.lalrpop_grammar.specs.declared.repr.Production.{Production}
use Rattle.lalrpop_grammar.specs.declared.repr.grammar.NonterminalData.{NonterminalData}
use Rattle.lalrpop_grammar.specs.declared.repr.grammar.Grammar.{Grammar}

-- the order of names is that of their bytes
abbrev pub name_cmp : NonterminalString → NonterminalString → Ordering
name_cmp a b = slice_cmp nat_cmp a.text b.text

-- the productions of an entry, and none if there is no entry
abbrev pub listed_productions : Option NonterminalData → List Production
listed_productions None = []
listed_productions (Some entry) = entry.productions.items

-- the productions of a name. There are none if it has no entry
abbrev pub productions_of : Grammar → NonterminalString → List Production
productions_of g name = listed_productions (get name_cmp g.nonterminals name)

-- all productions, in the order of the names. The definitions of parsing take this list for a
-- grammar
abbrev pub productions : Grammar → List Production
productions g = flat_map (λ (e : NonterminalString × NonterminalData). e.1.productions.items) g.nonterminals.entries

-- the rules of a grammar are its productions, and its terminals in the order of their bits. FIRST
-- sets and lookaheads depend on nothing else of it
pub record Rules : Type 0 where
  pub productions : List Production
  pub terminals : List TerminalString

-- the rules of a grammar
abbrev pub rules_of : Grammar → Rules
rules_of g = record { productions = productions g; terminals = g.terminals }

-- each terminal of the symbols is in the list
abbrev pub HasKnownTerminals : List TerminalString → List Symbol → Type 0
HasKnownTerminals terminals symbols = (k : ℕ) (t : TerminalString) → slice_get symbols k ≡ Some (Terminal t) → Contains terminals t

-- a production under a name is well-formed, whatever the other productions are
pub record IsWellFormedProduction (terminals : List TerminalString) (actions : ℕ) (name : NonterminalString) (production : Production) : Type 0 where
  pub named : production.nonterminal ≡ name
  pub known : HasKnownTerminals terminals production.symbols
  pub numbered : production.action.0 < actions

-- the productions under a name are well-formed, and all differ
pub record IsWellFormedEntry (terminals : List TerminalString) (actions : ℕ) (name : NonterminalString) (productions : List Production) : Type 0 where
  pub each : (k : ℕ) (p : Production) → slice_get productions k ≡ Some p → IsWellFormedProduction terminals actions name p
  pub differ : AllDiffer productions

-- the entries of a map are well-formed
abbrev pub AreWellFormedEntries : List TerminalString → ℕ → List (NonterminalString × NonterminalData) → Type 0
AreWellFormedEntries terminals actions entries =
    (k : ℕ) (name : NonterminalString) (entry : NonterminalData) → slice_get entries k ≡ Some (name, entry) →
    IsWellFormedEntry terminals actions name entry.productions.items

-- a grammar is well-formed, which every call with a grammar requires
abbrev pub IsWellFormed : Grammar → Type 0
IsWellFormed g = AreWellFormedEntries g.terminals (vec_len g.action_fn_defns) g.nonterminals.entries
