-- Reachable nonterminals: Hopcroft, Motwani and Ullman, "Introduction to Automata Theory, Languages, and Computation", section 7.1.1.
use Rattle.std.specs.Prelude.{◌≡◌, List, [], ◌∷◌, Contains}
use Rattle.lalrpop_grammar.specs.declared.repr.NonterminalString.{NonterminalString}
use Rattle.lalrpop_grammar.specs.declared.repr.Production.{Production}
use Rattle.lalrpop_grammar.specs.declared.repr.Symbol.{Symbol}
use Rattle.lalrpop_grammar.specs.declared.repr.Symbol.TheVariants.{Nonterminal}
use Rattle.lalrpop_grammar.specs.grammars.Grammar.{Derives}

-- a nonterminal is reachable if it is in a list of symbols that the start symbol derives. The start symbol itself is such a list
abbrev pub IsReachable : List Production → NonterminalString → NonterminalString → Type 0
IsReachable g start a = (form : List Symbol) × Derives g (Nonterminal start ∷ []) form × Contains form (Nonterminal a)

-- a nonterminal is on the right side of one of these productions
abbrev pub IsOnRightSide : List Production → NonterminalString → Type 0
IsOnRightSide ps a = (p : Production) × Contains ps p × Contains p.symbols (Nonterminal a)

-- a nonterminal has a production among these
abbrev pub HasProduction : List Production → NonterminalString → Type 0
HasProduction ps a = (p : Production) × Contains ps p × (p.nonterminal ≡ a)
