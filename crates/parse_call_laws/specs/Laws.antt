-- Theorems on the answers of the calls for tables by number, which the functions of `laws.rt` state.
use Rattle.std.specs.Prelude.{◌≡◌, ℕ, List, [], ◌∷◌, ◌++◌, length, slice_get, Option, None, Some, option_map}
use Rattle.lalrpop_base.specs.Words.{AllDiffer, CanStandNext, Contents, HasOutcome, IsBitOf, Limit, Parsed, ReduceBy, Refused, ShiftTo, TableEntry, Tree, action_on, next_token}
use Rattle.lalrpop_grammar.specs.declared.lookahead.token.Token.{Token}
use Rattle.lalrpop_grammar.specs.declared.repr.NonterminalString.{NonterminalString}
use Rattle.lalrpop_grammar.specs.declared.repr.Production.{Production}
use Rattle.lalrpop_grammar.specs.declared.repr.TerminalString.{TerminalString}
use Rattle.parse_calls.specs.Answers.{Parse, parse_answer}
use Rattle.parse_calls.specs.Lookups.{action_at, goto_at, side_at}
use Rattle.parse_calls.specs.declared.lookups.Found.{Found}
use Rattle.parse_calls.specs.declared.lookups.Found.TheVariants.{Fault, Nothing, Reduce, Shift}
use Rattle.parse_calls.specs.declared.lookups.Target.{Target}
use Rattle.parse_calls.specs.declared.lookups.Target.TheVariants.{Fault as NoTarget, Nothing as NoGoto, State}
use Rattle.table_numbers.specs.Words.{AreAbout, Lists, numbered_contents, numbers_of}
use Rattle.table_numbers.specs.declared.tables.NumberedTables.{NumberedTables}
use Rattle.table_parser.specs.Words.{AreTerminals}

-- the numbers are those of tables by number, which are about lists that have no name twice
pub record AreTableNumbers (lists : Lists) (tables : NumberedTables) (numbers : List ℕ) : Type 0 where
  pub laid_out : numbers ≡ numbers_of tables
  pub about : AreAbout lists tables
  pub terminals : AllDiffer lists.terminals
  pub nonterminals : AllDiffer lists.nonterminals

-- the entry of the action table that an action of the calls means
abbrev pub entry_by : List Production → Found → Option TableEntry
entry_by productions Fault = None
entry_by productions Nothing = None
entry_by productions (Shift state) = Some (ShiftTo state)
entry_by productions (Reduce number) = option_map ReduceBy (slice_get productions number)

-- the state that a goto of the calls means
abbrev pub state_by : Target → Option ℕ
state_by NoTarget = None
state_by NoGoto = None
state_by (State state) = Some state

-- the actions of the calls are those of the contents of the states
abbrev pub ActionsAreRight : Type 0
ActionsAreRight = (lists : Lists) (tables : NumberedTables) (numbers : List ℕ) → AreTableNumbers lists tables numbers → (state bit : ℕ) (token : Token) → CanStandNext token → IsBitOf lists.terminals token bit →
    entry_by lists.productions (action_at numbers state bit) ≡ action_on (numbered_contents lists tables state) token

-- the gotos of the calls are those of the contents of the states
abbrev pub GotosAreRight : Type 0
GotosAreRight = (lists : Lists) (tables : NumberedTables) (numbers : List ℕ) → AreTableNumbers lists tables numbers → (state number : ℕ) (name : NonterminalString) → slice_get lists.nonterminals number ≡ Some name →
    state_by (goto_at numbers state number) ≡ (numbered_contents lists tables state).goto name

-- the nonterminals of productions, and the lengths of their right sides, are those of the lists
abbrev pub SidesAreRight : Type 0
SidesAreRight = (lists : Lists) (tables : NumberedTables) (numbers : List ℕ) → AreTableNumbers lists tables numbers → (number : ℕ) (p : Production) → slice_get lists.productions number ≡ Some p →
    (name : ℕ) × (len : ℕ) × (side_at numbers number ≡ Some (name, len)) × (slice_get lists.nonterminals name ≡ Some p.nonterminal) × (len ≡ length p.symbols)

-- an answer of `parse` is right for the run of states on a list of terminals. It has the outcome of
-- the run: a tree, a refusal by a state of the token after those that were read, or the limit. Or it
-- is a fault, of which nothing is said
pub data IsRightParse (states : ℕ → Contents) (w : List TerminalString) (limit : ℕ) (p : Parse) : Type 0 where
  at_tree : (tree : Tree) → p.status ≡ 0 → p.read ≡ length w → HasOutcome states w limit (Parsed tree) → IsRightParse states w limit p
  at_refusal : (events : List ℕ) (state : ℕ) (before after : List TerminalString) → p.status ≡ 1 → p.numbers ≡ events ++ 2 ∷ state ∷ [] → p.read ≡ length before → w ≡ before ++ after → HasOutcome states w limit (Refused state (next_token after)) → IsRightParse states w limit p
  at_limit : (events : List ℕ) (state : ℕ) (before after : List TerminalString) → p.status ≡ 1 → p.numbers ≡ events ++ 3 ∷ state ∷ [] → p.read ≡ length before → w ≡ before ++ after → HasOutcome states w limit Limit → IsRightParse states w limit p
  at_fault : p.status ≡ 2 → IsRightParse states w limit p

-- the answers of `parse` are right for tables by number
abbrev pub ParsesAreRight : Type 0
ParsesAreRight = (lists : Lists) (tables : NumberedTables) (numbers : List ℕ) → AreTableNumbers lists tables numbers → (w : List TerminalString) (tokens : List ℕ) (limit : ℕ) → AreTerminals lists.terminals tokens w →
    IsRightParse (numbered_contents lists tables) w limit (parse_answer numbers tokens limit)
