-- The results of the parse by a grammar's tables: a tree, a refusal, the limit, or conflicts in the
-- place of tables. Nothing is said of an allocation failure.
use Rattle.std.specs.Prelude.{ℕ, List, Result, Ok, Err}
use Rattle.lalrpop_base.specs.Words.{Bits, Outcome, Parsed, Refused as RefusedIn, Limit as CutOff, Tree, IsParseTree}
use Rattle.lalrpop_grammar.specs.declared.lookahead.token.Token.{Token}
use Rattle.lalrpop_states.specs.declared.lr1_core.state.TableConstructionError.{TableConstructionError}
use Rattle.lalrpop_grammar.specs.declared.repr.NonterminalString.{NonterminalString}
use Rattle.lalrpop_grammar.specs.declared.repr.Production.{Production}
use Rattle.lalrpop_grammar.specs.declared.repr.TerminalString.{TerminalString}
use Rattle.lalrpop_parser.specs.runs.FaithfulAnswers.{IsOutcomeFor}
use Rattle.lalrpop_parser.specs.trees.ParseTrees.{tree_of}
use Rattle.lalrpop_lr1.specs.declared.headline.parse_error.ParseError.{ParseError}
use Rattle.lalrpop_lr1.specs.declared.headline.parse_error.ParseError.TheVariants.{Conflicts, Refused, Limit, Memory}
use Rattle.lalrpop_parser.specs.declared.interpret.error.InterpretError.{InterpretError}
use Rattle.lalrpop_parser.specs.declared.interpret.error.InterpretError.TheVariants.{Refused as RefusedBy, Limit as LimitPassed, Memory as NoMemory}
use Rattle.lalrpop_parser.specs.declared.interpret.tree.ParseTree.{ParseTree}

-- there were tables, and the result by them is a tree, a refusal or the limit
abbrev pub HadTables : Result ParseTree ParseError → Type 0
HadTables (Ok tree) = Unit {0}
HadTables (Err (Conflicts error)) = ⊥
HadTables (Err (Refused token)) = Unit {0}
HadTables (Err Limit) = Unit {0}
HadTables (Err Memory) = ⊥

-- there were tables exactly if the property holds
abbrev pub HadTablesWhere : Type 0 → Result ParseTree ParseError → Type 0
HadTablesWhere P (Ok tree) = P
HadTablesWhere P (Err (Conflicts error)) = ¬ P
HadTablesWhere P (Err (Refused token)) = P
HadTablesWhere P (Err Limit) = P
HadTablesWhere P (Err Memory) = Unit {0}

-- the property holds of the states and conflicts of the error, if it has some
abbrev pub IfParseConflicts : (TableConstructionError Bits → Type 0) → ParseError → Type 0
IfParseConflicts P (Conflicts error) = P error
IfParseConflicts P (Refused token) = Unit {0}
IfParseConflicts P Limit = Unit {0}
IfParseConflicts P Memory = Unit {0}

-- the property holds of the token that is refused, if one is
abbrev pub IfRefusedAt : (Token → Type 0) → ParseError → Type 0
IfRefusedAt P (Conflicts error) = Unit {0}
IfRefusedAt P (Refused token) = P token
IfRefusedAt P Limit = Unit {0}
IfRefusedAt P Memory = Unit {0}

-- the property holds if the error is the limit
abbrev pub IfParseLimit : Type 0 → ParseError → Type 0
IfParseLimit P (Conflicts error) = Unit {0}
IfParseLimit P (Refused token) = Unit {0}
IfParseLimit P Limit = P
IfParseLimit P Memory = Unit {0}

-- the property holds of the outcome that is reported, for a refusal by some state; conflicts report
-- none
abbrev pub ReportsParseOutcome : (Outcome → Type 0) → Result ParseTree ParseError → Type 0
ReportsParseOutcome R (Ok tree) = R (Parsed (tree_of tree))
ReportsParseOutcome R (Err (Conflicts error)) = Unit {0}
ReportsParseOutcome R (Err (Refused token)) = (n : ℕ) × R (RefusedIn n token)
ReportsParseOutcome R (Err Limit) = R CutOff
ReportsParseOutcome R (Err Memory) = Unit {0}

-- the result for a list with a parse tree is the tree if its nodes are within the limit, else the
-- limit; nothing is said of conflicts and of an allocation failure
abbrev pub TellsTrees : ℕ → List TerminalString → Result ParseTree ParseError → List Production → NonterminalString → Type 0
TellsTrees limit w answer g start =
    (t : Tree) → IsParseTree g start w t → ReportsParseOutcome (IsOutcomeFor t limit) answer

-- the result of the parser, without the state of a refusal
abbrev pub parse_result : {L : Type 0} → Result ParseTree (InterpretError L) → Result ParseTree ParseError
parse_result (Ok tree) = Ok tree
parse_result (Err (RefusedBy state token)) = Err (Refused token)
parse_result (Err LimitPassed) = Err Limit
parse_result (Err NoMemory) = Err Memory
