-- Derivations: Aho, Sethi and Ullman, "Compilers", sections 4.2 and 4.4. A grammar is here the list
-- of its productions.
use Rattle.std.specs.Prelude.{List, [], ◌∷◌, ◌++◌, Contains, map}
use Rattle.lalrpop_grammar.specs.declared.repr.NonterminalString.{NonterminalString}
use Rattle.lalrpop_grammar.specs.declared.repr.Production.{Production}
use Rattle.lalrpop_grammar.specs.declared.repr.Symbol.{Symbol}
use Rattle.lalrpop_grammar.specs.declared.repr.Symbol.TheVariants.{Nonterminal, Terminal}
use Rattle.lalrpop_grammar.specs.declared.repr.TerminalString.{TerminalString}

-- a list derives another if steps lead from the former to the latter. A step replaces one
-- nonterminal by the right side of one of its productions. There may be no step at all
pub data Derives (g : List Production) : List Symbol → List Symbol → Type 0 where
  as_it_is : {l : List Symbol} → Derives g l l
  replace : (before after : List Symbol) (p : Production) {m : List Symbol} → Contains g p → Derives g (before ++ (p.symbols ++ after)) m → Derives g (before ++ Nonterminal p.nonterminal ∷ after) m

-- a list is nullable if it derives the empty list
abbrev pub IsNullable : List Production → List Symbol → Type 0
IsNullable g l = Derives g l []

-- t is in FIRST(l) if l derives a list that begins with t
abbrev pub IsFirst : List Production → List Symbol → TerminalString → Type 0
IsFirst g l t = (rest : List Symbol) × Derives g l (Terminal t ∷ rest)

-- a list of terminals, as a list of symbols
abbrev pub terminal_symbols : List TerminalString → List Symbol
terminal_symbols w = map Terminal w

-- a sentence is a list of terminals that the start symbol derives: Knuth 1965, section I
abbrev pub IsSentence : List Production → NonterminalString → List TerminalString → Type 0
IsSentence g start w = Derives g (Nonterminal start ∷ []) (terminal_symbols w)

-- a beginning is a list of terminals with which some list begins that the start symbol derives. The
-- empty list is one. Any symbols may follow the terminals, which is this project's form of a prefix
-- of a sentence
abbrev pub IsBeginning : List Production → NonterminalString → List TerminalString → Type 0
IsBeginning g start w = (rest : List Symbol) × Derives g (Nonterminal start ∷ []) (terminal_symbols w ++ rest)

-- a nonterminal is on no right side
abbrev pub IsOnNoRightSide : List Production → NonterminalString → Type 0
IsOnNoRightSide g a = (p : Production) → Contains g p → Contains p.symbols (Nonterminal a) → ⊥
