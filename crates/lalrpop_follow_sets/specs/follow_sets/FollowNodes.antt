-- The nodes of the follow graph by number (DeRemer and Pennello 1982), and the data that a pass
-- over states reads.
use Rattle.std.specs.Prelude.{◌≡◌, ◌<◌, ◌≤◌, ◌+◌, ◌⊎◌, ℕ, zero, suc, List, [], ◌∷◌, length, map, get_or, slice_get, Option, Some, None, Contains}
use Rattle.lalrpop_base.specs.Words.{AllDiffer, AreClosed, AreCoherent, Contents, IsBehindDot, IsReached, IsWellFormed, rules_of, AreExpansions, AreNumbers, AreSuffixes}
use Rattle.lalrpop_grammar.specs.declared.repr.NonterminalString.{NonterminalString}
use Rattle.lalrpop_grammar.specs.declared.repr.Production.{Production}
use Rattle.lalrpop_grammar.specs.declared.repr.Symbol.{Symbol}
use Rattle.lalrpop_grammar.specs.declared.repr.Symbol.TheVariants.{Nonterminal, Terminal}
use Rattle.lalrpop_construction.specs.states.SamePlaces.{places_in}
use Rattle.lalrpop_construction.specs.states.NumberedStates.{AreNumberedStates, transitions_at}
use Rattle.lalrpop_numbers.specs.declared.numbers.Numbers.{Numbers}
use Rattle.lalrpop_follow_sets.specs.declared.follow_sets.nodes.Nodes.{Nodes}
use Rattle.lalrpop_construction.specs.declared.construction.numbered_state.NumberedState.{NumberedState}
use Rattle.lalrpop_follow_sets.specs.declared.follow_sets.pass.Pass.{Pass}
use Rattle.lalrpop_follow_sets.specs.declared.follow_sets.start.Start.{Start}

-- ---- the start symbol
-- the number of the name among the symbols, or the count of the symbols, if the name is none of
-- them
abbrev pub IsNumberOrCount : List Symbol → NonterminalString → ℕ → Type 0
IsNumberOrCount symbols name x = (slice_get symbols x ≡ Some (Nonterminal name)) ⊎ ((x ≡ length symbols) × ¬ Contains symbols (Nonterminal name))

-- the number of the start symbol, and the numbers of its productions with the dot at the start
pub record IsStart (n : Numbers) (name : NonterminalString) (start : Start) : Type 0 where
  pub number : IsNumberOrCount n.symbols.items name start.number
  pub expansions : AreExpansions n.items.items (Nonterminal name) start.expansions.items

-- ---- nodes
-- the nonterminal that a symbol is, and the start symbol for a terminal
abbrev pub name_or : NonterminalString → Symbol → NonterminalString
name_or start (Nonterminal a) = a
name_or start (Terminal t) = start

-- the nonterminal with the number, and the start symbol if no nonterminal has the number
abbrev pub name_at : List Symbol → NonterminalString → ℕ → NonterminalString
name_at [] start x = start
name_at (s ∷ symbols) start zero = name_or start s
name_at (s ∷ symbols) start (suc x) = name_at symbols start x

-- pairs of a state and the number of a nonterminal, as pairs of a state and the nonterminal
abbrev pub follow_nodes : List Symbol → NonterminalString → List (ℕ × ℕ) → List (ℕ × NonterminalString)
follow_nodes symbols start pairs = map (λ (p : ℕ × ℕ). (p.0, name_at symbols start p.1)) pairs

-- the node is that of a transition over a nonterminal: its number is the number of the state's
-- first node plus the place of the transition
pub record IsTransitionNode (symbols : List Symbol) (states : List NumberedState) (firsts : List ℕ) (node s x : ℕ) : Type 0 where
  pub place : ℕ
  pub target : ℕ
  pub name : NonterminalString
  pub edge : slice_get (transitions_at states s) place ≡ Some (x, target)
  pub symbol : slice_get symbols x ≡ Some (Nonterminal name)
  pub number : node ≡ get_or firsts s 0 + place

-- the nodes are one for each transition of a state over a nonterminal, and one for the start symbol
-- in state 0, which may be that of a transition; no two are the same
pub record AreNodes (symbols : List Symbol) (first : ℕ) (states : List NumberedState) (nodes : Nodes) : Type 0 where
  pub counted : length nodes.firsts.items ≡ length states
  pub here : (s place x target : ℕ) (a : NonterminalString) → slice_get (transitions_at states s) place ≡ Some (x, target) → slice_get symbols x ≡ Some (Nonterminal a) → slice_get nodes.pairs.items (get_or nodes.firsts.items s 0 + place) ≡ Some (s, x)
  pub from : (node s x : ℕ) → slice_get nodes.pairs.items node ≡ Some (s, x) → ((s ≡ 0) × (x ≡ first)) ⊎ IsTransitionNode symbols states nodes.firsts.items node s x
  pub begun : Contains nodes.pairs.items (0, first)
  pub differ : AllDiffer nodes.pairs.items

-- the nodes are those of the transitions alone
pub record AreTransitionNodes (symbols : List Symbol) (states : List NumberedState) (nodes : Nodes) : Type 0 where
  pub counted : length nodes.firsts.items ≡ length states
  pub here : (s place x target : ℕ) (a : NonterminalString) → slice_get (transitions_at states s) place ≡ Some (x, target) → slice_get symbols x ≡ Some (Nonterminal a) → slice_get nodes.pairs.items (get_or nodes.firsts.items s 0 + place) ≡ Some (s, x)
  pub from : (node s x : ℕ) → slice_get nodes.pairs.items node ≡ Some (s, x) → IsTransitionNode symbols states nodes.firsts.items node s x
  pub differ : AllDiffer nodes.pairs.items

-- the transitions of a state before its first one over a terminal, each as the pair of the state
-- and the number of its symbol
abbrev pub as_pair : ℕ → ℕ → Option Symbol → List (ℕ × ℕ) → List (ℕ × ℕ)
as_pair s x (Some (Nonterminal a)) pairs = (s, x) ∷ pairs
as_pair s x (Some (Terminal t)) pairs = []
as_pair s x None pairs = []

abbrev pub nonterminals_of : List Symbol → ℕ → List (ℕ × ℕ) → List (ℕ × ℕ)
nonterminals_of symbols s [] = []
nonterminals_of symbols s (e ∷ es) = as_pair s e.0 (slice_get symbols e.0) (nonterminals_of symbols s es)

-- the number is that of a nonterminal among the symbols, or the count of the symbols
abbrev pub IsNonterminalOrCount : List Symbol → ℕ → Type 0
IsNonterminalOrCount symbols x = ((a : NonterminalString) × (slice_get symbols x ≡ Some (Nonterminal a))) ⊎ (x ≡ length symbols)

-- ---- the pass
-- each dotted production of a state is of a production of the grammar
abbrev pub AreItemsOfGrammar : List Production → (ℕ → Contents) → Type 0
AreItemsOfGrammar productions states = (s : ℕ) (q : Production) (dot : ℕ) → Contains (states s).items (q, dot) → Contains productions q × (dot ≤ length q.symbols)

-- each of the states below the count is reached from state 0 over edges
abbrev pub AreAllReached : (ℕ → Contents) → ℕ → Type 0
AreAllReached states count = (n : ℕ) → n < count → IsReached states n

-- the production is of the start symbol in state 0, or its nonterminal is after a dot in the state
abbrev pub IsBegunBy : NonterminalString → (ℕ → Contents) → ℕ → Production → Type 0
IsBegunBy start states n q = ((n ≡ 0) × (q.nonterminal ≡ start)) ⊎ IsBehindDot (states n) (Nonterminal q.nonterminal)

-- each production with the dot at the start in the state is of the start symbol in state 0, or its
-- nonterminal is after a dot in the state; the productions of each nonterminal after a dot are in
-- the state, with the dot at the start
pub record IsExpandedAt (g : List Production) (start : NonterminalString) (states : ℕ → Contents) (n : ℕ) : Type 0 where
  pub begun : (q : Production) → Contains (states n).items (q, 0) → IsBegunBy start states n q
  pub expanded : (q : Production) → Contains g q → IsBehindDot (states n) (Nonterminal q.nonterminal) → Contains (states n).items (q, 0)

-- this holds of each of the states below the count, whether it is reached or not
abbrev pub AreExpanded : List Production → NonterminalString → (ℕ → Contents) → ℕ → Type 0
AreExpanded g start states count = (n : ℕ) → n < count → IsExpandedAt g start states n

-- the pass is over states of a grammar that are closed and expanded, with these states by number,
-- the suffixes of dotted productions, and the nodes of the follow graph
pub record IsPass (pass : Pass) : Type 0 where
  pub well_formed : IsWellFormed pass.grammar.now
  pub numbers : AreNumbers (rules_of pass.grammar.now) pass.numbers.now
  pub coherent : AreCoherent pass.states.now
  pub some : 0 < length pass.states.now
  pub closed : AreClosed (rules_of pass.grammar.now).productions pass.name.now (places_in pass.states.now)
  pub expanded : AreExpanded (rules_of pass.grammar.now).productions pass.name.now (places_in pass.states.now) (length pass.states.now)
  pub own : AreItemsOfGrammar (rules_of pass.grammar.now).productions (places_in pass.states.now)
  pub numbered : AreNumberedStates pass.numbers.now pass.states.now pass.numbered.now
  pub suffixes : AreSuffixes (rules_of pass.grammar.now) pass.numbers.now.items.items pass.suffixes.now
  pub start : IsStart pass.numbers.now pass.name.now pass.start.now
  pub nodes : AreNodes pass.numbers.now.symbols.items pass.start.now.number pass.numbered.now pass.nodes.now

-- the nodes of the pass, as pairs of a state and a nonterminal
abbrev pub nodes_of : Pass → List (ℕ × NonterminalString)
nodes_of pass = follow_nodes pass.numbers.now.symbols.items pass.name.now pass.nodes.now.pairs.items

-- a node whose symbol has the number x is of the nonterminal a
abbrev pub IsNodeName : Pass → ℕ → NonterminalString → Type 0
IsNodeName pass x a = (slice_get pass.numbers.now.symbols.items x ≡ Some (Nonterminal a)) ⊎ ((x ≡ pass.start.now.number) × (a ≡ pass.name.now))
