-- The canonical states of a grammar (Knuth 1965; Aho, Sethi and Ullman, section 4.7), as states of
-- the code.
use Rattle.std.specs.Prelude.{◌≡◌, ◌<◌, ◌==◌, ◌&&◌, ℕ, Bool, true, false, List, length, slice_get, Option, Some, None, Contains}
use Rattle.std.specs.Borrow.{Bor}
use Rattle.std.specs.List.{list_any}
use Rattle.lalrpop_grammar.specs.closures.Closures.{IsReached, TokenKernelsDiffer}
use Rattle.lalrpop_grammar.specs.conflicts.Conflicts.{ReducesInOrder}
use Rattle.lalrpop_collections.specs.lists.Bits.{Bits}
use Rattle.lalrpop_grammar.specs.parsing.Laws.{AreCanonicalWith}
use Rattle.lalrpop_states.specs.states.Coherent.{AreCoherent}
use Rattle.lalrpop_states.specs.states.Contents.{contents, holds_token}
use Rattle.lalrpop_states.specs.states.Items.{Dotted}
use Rattle.lalrpop_grammar.specs.grammars.Tokens.{FitsTokens}
use Rattle.lalrpop_grammar.specs.grammars.WellFormed.{Rules, rules_of}
use Rattle.lalrpop_collections.specs.lists.Places.{AllDiffer}
use Rattle.lalrpop_grammar.specs.contracts.repr.ProductionPartialEq.TheImpl as production_eq
use Rattle.lalrpop_grammar.specs.declared.lookahead.token.Token.{Token}
use Rattle.lalrpop_states.specs.declared.lr1_core.state.State.{State}
use Rattle.lalrpop_grammar.specs.declared.repr.NonterminalString.{NonterminalString}
use Rattle.lalrpop_grammar.specs.declared.repr.Production.{Production}
use Rattle.lalrpop_grammar.specs.declared.repr.TerminalString.{TerminalString}
use Rattle.lalrpop_grammar.specs.declared.repr.grammar.Grammar.{Grammar}
use Rattle.lalrpop_states.specs.grammars.Ascending.{Ascend, production_order}

-- ---- the tokens of the items of states
module _ {L : Type 0} (holds : L → Token → Bool) where
  -- whether the item has the dotted production and holds the token
  abbrev pub is_with_token : Production → ℕ → Token → Dotted L → Bool
  is_with_token p dot t item = (production_eq.ghosts.eq item.production p && (item.index == dot)) && holds item.lookahead t

  -- whether one of the items of a state has the dotted production and holds the token
  abbrev pub item_has_token : Option (State L) → Production → ℕ → Token → Bool
  item_has_token None p dot t = false
  item_has_token (Some state) p dot t = list_any (is_with_token p dot t) state.items.vec.items

  -- whether the dotted production holds the token in the state with the number
  abbrev pub item_has_token_in : List (State L) → ℕ → Production → ℕ → Token → Bool
  item_has_token_in states n = item_has_token (slice_get states n)

-- whether the dotted production holds the token in the state with the number, with sets of tokens;
-- the bit of a terminal is its place in the list of terminals
abbrev pub tokens_of : List TerminalString → List (State Bits) → ℕ → Production → ℕ → Token → Bool
tokens_of terminals states = item_has_token_in (holds_token terminals) states

-- ---- the states
-- the states are canonical, with the tokens of their items;
-- a state has no dotted production twice, no two states have the same kernel, and each is reached;
-- reductions ascend by their productions
pub record AreCanonicalStates (g : Rules) (start : NonterminalString) (states : List (State Bits)) : Type 0 where
  pub canonical : AreCanonicalWith g.productions start (contents g.terminals states) (tokens_of g.terminals states)
  pub once : (n : ℕ) → AllDiffer (contents g.terminals states n).items
  pub differ : TokenKernelsDiffer (contents g.terminals states) (λ n p dot t. tokens_of g.terminals states n p dot t ≡ true)
  pub reached : (n : ℕ) → n < length states → IsReached (contents g.terminals states) n
  pub ascend : (n : ℕ) → ReducesInOrder production_order (contents g.terminals states n)

-- ---- the condition of a collapse
-- the reductions of the state hold bits of tokens alone
abbrev pub FitReductions : List TerminalString → State Bits → Type 0
FitReductions terminals s = (r : Bits × Bor Production) → Contains s.reductions.items r → FitsTokens terminals r.0

-- the states are the canonical states of the grammar, under any numbers, and there is one;
-- they are coherent, items ascend, and reductions hold bits of tokens alone
pub record AreOrderedCanonical (g : Grammar) (start : NonterminalString) (states : List (State Bits)) : Type 0 where
  pub canonical : AreCanonicalStates (rules_of g) start states
  pub coherent : AreCoherent states
  pub some : 0 < length states
  pub ascend : (n : ℕ) (s : State Bits) → slice_get states n ≡ Some s → Ascend s.items.vec.items
  pub fit : (n : ℕ) (s : State Bits) → slice_get states n ≡ Some s → FitReductions g.terminals s
