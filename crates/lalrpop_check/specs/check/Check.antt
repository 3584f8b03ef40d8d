-- The check of tables.
use Rattle.std.specs.Prelude.{◌≡◌, true, ℕ, List, length, Contains}
use Rattle.lalrpop_grammar.specs.closures.Closures.{AreClosed, IsCarried}
use Rattle.lalrpop_grammar.specs.grammars.WellFormed.{productions}
use Rattle.lalrpop_collections.specs.lists.Bits.{Bits}
use Rattle.lalrpop_states.specs.states.Contents.{contents}
use Rattle.lalrpop_grammar.specs.states.States.{ReducesFinished, Reduction}
use Rattle.lalrpop_grammar.specs.declared.lookahead.token.Token.{Token}
use Rattle.lalrpop_states.specs.declared.lr1_core.state.State.{State}
use Rattle.lalrpop_grammar.specs.declared.repr.NonterminalString.{NonterminalString}
use Rattle.lalrpop_grammar.specs.declared.repr.grammar.Grammar.{Grammar}
use Rattle.lalrpop_states.specs.conflicts.AllConflicts.{AreAllConflictFree}

-- each reduction holds the tokens that are carried to its finished item from state 0, over the
-- states' own edges
abbrev pub HoldCarried : Grammar → NonterminalString → List (State Bits) → Type 0
HoldCarried g start states = (n : ℕ) (r : Reduction) (t : Token) → Contains (contents g.terminals states n).reductions r → IsCarried (productions g) start (contents g.terminals states) n r.production (length (r.production).symbols) t → r.holds t ≡ true

-- states pass the check of this library by four conditions. The states are closed: state 0 is the
-- closure of the start, each target is the closure of the moved items, and the edges are those of
-- the symbols after the dots. The reductions are by the finished items, once each. Each reduction
-- holds the tokens that are carried to it. No state has a conflict
pub record PassCheck (g : Grammar) (start : NonterminalString) (states : List (State Bits)) : Type 0 where
  pub closed : AreClosed (productions g) start (contents g.terminals states)
  pub reductions : (n : ℕ) → ReducesFinished (contents g.terminals states n)
  pub carried : HoldCarried g start states
  pub no_conflict : AreAllConflictFree g.terminals states
