-- The results of a construction: tables, or states with their conflicts.
use Rattle.std.specs.Prelude.{◌≢◌, ℕ, ◌<◌, List, [], map, length}
use Rattle.lalrpop_states.specs.conflicts.Failures.{IfConflicts}
use Rattle.lalrpop_grammar.specs.grammars.WellFormed.{Rules, productions_of, rules_of}
use Rattle.lalrpop_collections.specs.lists.Bits.{Bits, no_bits, with_bit}
use Rattle.lalrpop_states.specs.states.Coherent.{AreCoherent}
use Rattle.lalrpop_states.specs.states.Items.{Dotted}
use Rattle.lalrpop_states.specs.declared.lookahead.nil.Nil.{Nil}
use Rattle.lalrpop_grammar.specs.declared.lookahead.token.Token.{Token}
use Rattle.lalrpop_states.specs.declared.lr1_core.state.BuildError.{BuildError}
use Rattle.lalrpop_states.specs.declared.lr1_core.state.Conflict.{Conflict}
use Rattle.lalrpop_states.specs.declared.lr1_core.state.State.{State}
use Rattle.lalrpop_grammar.specs.declared.repr.NonterminalString.{NonterminalString}
use Rattle.lalrpop_grammar.specs.declared.repr.Production.{Production}
use Rattle.lalrpop_grammar.specs.declared.repr.Symbol.{Symbol}
use Rattle.lalrpop_grammar.specs.declared.repr.TerminalString.{TerminalString}
use Rattle.lalrpop_grammar.specs.declared.repr.grammar.Grammar.{Grammar}
use Rattle.lalrpop_states.specs.closures.Closure.{IsClosureOf, IsClosureBy}
use Rattle.lalrpop_states.specs.conflicts.AllConflicts.{AreAllConflictFree, AreAllConflicts, ListsAll}
use Rattle.lr1_theory.specs.construction.States.{item_at_start, AreBuiltBy}

-- a construction: the rules of a grammar, the start symbol, its productions, and the lookahead that
-- follows it
pub record Construction (L : Type 0) : Type 0 where
  pub rules : Rules
  pub start : NonterminalString
  pub first : List Production
  pub lookahead : L

-- a construction, and after how many conflicts it stops; 0 for no early stop
pub record Settings (L : Type 0) : Type 0 where
  pub construction : Construction L
  pub stop_after : ℕ

-- the states are built from kernels, of which the first is that of the start symbol;
-- there is at least one state, and the states are coherent
pub record AreStatesBy {L : Type 0} (Closes : List (Dotted L) → List (Dotted L) → Type 0) (c : Construction L) (states : List (State L)) : Type 0 where
  pub built : AreBuiltBy Closes (map (item_at_start c.lookahead) c.first) states
  pub some : 0 < length states
  pub coherent : AreCoherent states

-- the states with sets of tokens are built by the construction
abbrev pub AreStatesOf : Construction Bits → List (State Bits) → Type 0
AreStatesOf c = AreStatesBy (IsClosureOf c.rules) c

-- the states are built by the construction, and have no conflict
pub record AreTables (c : Construction Bits) (states : List (State Bits)) : Type 0 where
  pub made : AreStatesOf c states
  pub free : AreAllConflictFree c.rules.terminals states

-- the error has states that the construction builds, and all their conflicts; there are some
abbrev pub FailsBy : Construction Bits → BuildError Bits → Type 0
FailsBy c = IfConflicts (λ error. AreStatesOf c error.states.items × AreAllConflicts c.rules.terminals error.states.items error.conflicts.items)

-- the construction for a grammar and a start symbol, which the lookahead follows
abbrev pub construction_of : {L : Type 0} → Grammar → NonterminalString → L → Construction L
construction_of g start lookahead = record { rules = rules_of g; start = start; first = productions_of g start; lookahead = lookahead }

-- the construction without lookahead
abbrev pub lr0_of : Grammar → NonterminalString → Construction Nil
lr0_of g start = construction_of g start (record {})

-- the canonical construction: Eof follows the start symbol
abbrev pub canonical_of : Grammar → NonterminalString → Construction Bits
canonical_of g start = construction_of g start (with_bit no_bits (length g.terminals))

-- ---- any lookahead
-- its meaning, the tokens that begin symbols, the symbols that let tokens pass, and the conflicts
-- that it lists are parameters
module _ {L : Type 0} (meaning : L → Bits) (begins : Rules → List Symbol → Token → Type 0) (passes : Rules → List Symbol → Type 0) (lists : State L → List TerminalString → List (Conflict L) → Type 0) where
  -- the states are built by the construction
  abbrev pub AreStatesFor : Construction L → List (State L) → Type 0
  AreStatesFor c = AreStatesBy (IsClosureBy meaning begins passes c.rules) c

  -- the states are built by the construction, and no conflict is listed for them
  pub record AreTablesFor (c : Construction L) (states : List (State L)) : Type 0 where
    pub made : AreStatesFor c states
    pub free : ListsAll lists c.rules.terminals states []

  -- the error has states that the construction builds, and the conflicts that are listed for
  -- them, of which there are some
  abbrev pub FailsFor : Construction L → BuildError L → Type 0
  FailsFor c = IfConflicts (λ error. AreStatesFor c error.states.items × ListsAll lists c.rules.terminals error.states.items error.conflicts.items × (error.conflicts.items ≢ []))
