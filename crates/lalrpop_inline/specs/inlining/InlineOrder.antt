-- The order in which marked nonterminals are inlined, and the reasons why there may be none.
use Rattle.std.specs.Prelude.{◌≡◌, ◌↔◌, List, ◌∷◌, ◌++◌, Contains, Option, None, Some}
use Rattle.std.specs.BTreeMap.{get}
use Rattle.lalrpop_base.specs.Words.{inline_mark, AllDiffer, name_cmp, productions_of}
use Rattle.lalrpop_grammar.specs.declared.repr.NonterminalString.{NonterminalString}
use Rattle.lalrpop_grammar.specs.declared.repr.Span.{Span}
use Rattle.lalrpop_grammar.specs.declared.repr.Production.{Production}
use Rattle.lalrpop_grammar.specs.declared.repr.Symbol.TheVariants.{Nonterminal}
use Rattle.lalrpop_grammar.specs.declared.repr.grammar.NonterminalData.{NonterminalData}
use Rattle.lalrpop_grammar.specs.declared.repr.grammar.Grammar.{Grammar}
use Rattle.lalrpop_grammar.specs.declared.repr.norm_error.NormError.{NormError}
use Rattle.lalrpop_grammar.specs.declared.repr.norm_error.NormError.TheVariants.{Cycle, TooManyActions, Memory}

-- the entry has the mark of a nonterminal to be inlined
abbrev pub IsMarkedEntry : Option NonterminalData → Type 0
IsMarkedEntry None = ⊥
IsMarkedEntry (Some entry) = Contains entry.attributes.items inline_mark

-- a nonterminal is marked if its entry has the mark
abbrev pub IsMarked : Grammar → NonterminalString → Type 0
IsMarked g a = IsMarkedEntry (get name_cmp g.nonterminals a)

-- a nonterminal mentions another one if one of its productions has that one on its right side
abbrev pub Mentions : Grammar → NonterminalString → NonterminalString → Type 0
Mentions g a c = (p : Production) × Contains (productions_of g a) p × Contains p.symbols (Nonterminal c)

-- the order has the marked nonterminals, each once, and each after the marked ones that it mentions
pub record IsInlineOrder (g : Grammar) (order : List NonterminalString) : Type 0 where
  pub marked : (a : NonterminalString) → Contains order a ↔ IsMarked g a
  pub once : AllDiffer order
  pub behind : (before after : List NonterminalString) (a c : NonterminalString) → order ≡ before ++ a ∷ after → Mentions g a c → IsMarked g c → Contains before c

-- the first nonterminal leads to the second over marked ones, of which each mentions the next
pub data Leads (g : Grammar) (a : NonterminalString) : NonterminalString → Type 0 where
  one : {c : NonterminalString} → IsMarked g a → Mentions g a c → Leads g a c
  more : {b c : NonterminalString} → Leads g a b → IsMarked g b → Mentions g b c → Leads g a c

-- a marked nonterminal mentions itself, or is on a ring of marked ones of which each mentions the
-- next
abbrev pub IsOnRing : Grammar → NonterminalString → Type 0
IsOnRing g a = Leads g a a

-- the entry has the span
abbrev pub HasSpan : Option NonterminalData → Span → Type 0
HasSpan None span = ⊥
HasSpan (Some entry) span = entry.span ≡ span

-- the error names a nonterminal on a ring, with the span of its entry; nothing is said of an
-- allocation failure
abbrev pub IsCycleOf : Grammar → NormError → Type 0
IsCycleOf g (Cycle span name) = IsOnRing g name × HasSpan (get name_cmp g.nonterminals name) span
IsCycleOf g TooManyActions = ⊥
IsCycleOf g Memory = Unit {0}
