-- What a result says if the states are faithful to a grammar: the correctness of an LR parser
-- (Knuth 1965; Aho, Sethi and Ullman, section 4.7), with this library's limit. The parser takes no
-- grammar. So each definition speaks of all grammars to which the states are faithful.
use Rattle.std.specs.Prelude.{◌≡◌, ◌≢◌, ◌⊎◌, ℕ, ◌<◌, ◌≤◌, Bool, List, ◌++◌, slice_get, Some, Result, Ok, Err}
use Rattle.lalrpop_base.specs.Words.{IsBeginning, IsOnNoRightSide, AreCanonicalWith, Configuration, Stands, move, Reaches, begin, Outcome, Parsed, HasOutcome, IsRightNext}
use Rattle.lalrpop_base.specs.Words.{Refused as RefusedIn, Limit as CutOff, Contents, AreFaithful, Tree, beside, no_trees, nodes, IsParseTree, IsLR1}
use Rattle.lalrpop_grammar.specs.declared.lookahead.token.Token.{Token}
use Rattle.lalrpop_states.specs.declared.lr1_core.state.State.{State}
use Rattle.lalrpop_grammar.specs.declared.repr.NonterminalString.{NonterminalString}
use Rattle.lalrpop_grammar.specs.declared.repr.Production.{Production}
use Rattle.lalrpop_grammar.specs.declared.repr.TerminalString.{TerminalString}
use Rattle.lalrpop_parser.specs.runs.Answers.{ReportsOutcome}
use Rattle.lalrpop_parser.specs.declared.interpret.error.InterpretError.{InterpretError}
use Rattle.lalrpop_parser.specs.declared.interpret.error.InterpretError.TheVariants.{Refused, Limit, Memory}
use Rattle.lalrpop_parser.specs.declared.interpret.tree.ParseTree.{ParseTree}

-- the property holds of each grammar and start symbol to which the states are faithful, if the
-- start symbol is on no right side
abbrev pub ForEachGrammar : (ℕ → Contents) → (List Production → NonterminalString → Type 0) → Type 0
ForEachGrammar states P = (g : List Production) (start : NonterminalString) → AreFaithful g start states → IsOnNoRightSide g start → P g start

-- the property holds of each LR(1) grammar and start symbol on no right side for which the states
-- are canonical
abbrev pub ForEachCanonical : (ℕ → Contents) → (List Production → NonterminalString → Type 0) → Type 0
ForEachCanonical states P = (g : List Production) (start : NonterminalString) (tokens : ℕ → Production → ℕ → Token → Bool) → AreCanonicalWith g start states tokens → IsLR1 g start → IsOnNoRightSide g start → P g start

-- each step of the run of a list is made on a right token: a terminal with which the list so far is
-- a beginning, or Eof after a sentence
abbrev pub StepsAreRight : (ℕ → Contents) → List TerminalString → List Production → NonterminalString → Type 0
StepsAreRight states w g start = (v rest : List TerminalString) (n : ℕ) (c : Configuration) → w ≡ v ++ rest → Reaches states n (begin w) c → c.rest ≡ rest → (move states c ≡ Stands) ⊎ IsRightNext g start v rest

-- from some limit on, the limit is never the outcome for the list
abbrev pub HasEnough : (ℕ → Contents) → List TerminalString → List Production → NonterminalString → Type 0
HasEnough states w g start = (enough : ℕ) × ((limit : ℕ) → enough ≤ limit → HasOutcome states w limit CutOff → ⊥)

-- the list has at most one parse tree
abbrev pub HasOneTree : List TerminalString → List Production → NonterminalString → Type 0
HasOneTree w g start = (t u : Tree) → IsParseTree g start w t → IsParseTree g start w u → t ≡ u

-- the tree is a parse tree of the list with no more nodes than the limit
pub record IsTreeWithin (limit : ℕ) (w : List TerminalString) (t : Tree) (g : List Production) (start : NonterminalString) : Type 0 where
  pub parse : IsParseTree g start w t
  pub within : nodes (beside t no_trees) ≤ limit

-- the run of the list makes `limit` steps, none of them final, and there is another
pub record IsCutOff (states : ℕ → Contents) (w : List TerminalString) (limit : ℕ) : Type 0 where
  pub last : Configuration
  pub reached : Reaches states limit (begin w) last
  pub another : move states last ≢ Stands

-- over some faithful tables the run of the list makes `limit` steps, none of them final, and there
-- is another
pub record IsCutOffByTables (g : List Production) (start : NonterminalString) (w : List TerminalString) (limit : ℕ) : Type 0 where
  pub states : ℕ → Contents
  pub faithful : AreFaithful g start states
  pub cut_off : IsCutOff states w limit

-- the outcome for a list with a parse tree: the tree if its nodes are within the limit, else the
-- limit
abbrev pub IsOutcomeFor : Tree → ℕ → Outcome → Type 0
IsOutcomeFor t limit (Parsed u) = (u ≡ t) × (nodes (beside t no_trees) ≤ limit)
IsOutcomeFor t limit (RefusedIn n token) = ⊥
IsOutcomeFor t limit CutOff = limit < nodes (beside t no_trees)

-- if the list has a parse tree, the result is the tree if its nodes are within the limit, else the
-- limit; nothing is said of an allocation failure
abbrev pub AnswersTrees : {L : Type 0} → ℕ → List TerminalString → List (State L) → Result ParseTree (InterpretError L) →
    List Production → NonterminalString → Type 0
AnswersTrees limit w states answer g start =
    (t : Tree) → IsParseTree g start w t → ReportsOutcome (IsOutcomeFor t limit) states answer

-- a refusal is by a state of the list and at a token for which the property holds
abbrev pub IfRefused : {L : Type 0} → (ℕ → Token → Type 0) → List (State L) → InterpretError L → Type 0
IfRefused P states (Refused state token) = (n : ℕ) × (slice_get states n ≡ Some state.now) × P n token
IfRefused P states Limit = Unit {0}
IfRefused P states Memory = Unit {0}

-- the property holds if the error is the limit
abbrev pub IfLimit : {L : Type 0} → Type 0 → InterpretError L → Type 0
IfLimit P (Refused state token) = Unit {0}
IfLimit P Limit = P
IfLimit P Memory = Unit {0}

-- the result is the limit, or an allocation failed
abbrev pub IsLimit : {L : Type 0} → Result ParseTree (InterpretError L) → Type 0
IsLimit (Ok tree) = ⊥
IsLimit (Err (Refused state token)) = ⊥
IsLimit (Err Limit) = Unit {0}
IsLimit (Err Memory) = Unit {0}

-- the result is a value or the limit, or an allocation failed
abbrev pub IsNoRefusal : {T L : Type 0} → Result T (InterpretError L) → Type 0
IsNoRefusal (Ok value) = Unit {0}
IsNoRefusal (Err (Refused state token)) = ⊥
IsNoRefusal (Err Limit) = Unit {0}
IsNoRefusal (Err Memory) = Unit {0}

-- a beginning is not refused
abbrev pub TakesBeginning : {T L : Type 0} → List TerminalString → Result T (InterpretError L) → List Production → NonterminalString → Type 0
TakesBeginning w answer g start = IsBeginning g start w → IsNoRefusal answer
