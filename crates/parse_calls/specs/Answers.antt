-- The answers of the calls, by a list of numbers.
use Rattle.std.specs.Prelude.{◌≡◌, ◌⊎◌, ◌-◌, ℕ, Bool, true, false, cond, nat_lt, List, [], ◌∷◌, ◌++◌, length, slice_index, Option, Some, None}
use Rattle.std.specs.List.{list_all}
use Rattle.parse_calls.specs.Lookups.{action_at, goto_at, side_at}
use Rattle.parse_calls.specs.Places.{counts_of}
use Rattle.parse_calls.specs.Room.{IsCopied}
use Rattle.parse_calls.specs.Runs.{Run, run}
use Rattle.parse_calls.specs.declared.lookups.Found.{Found}
use Rattle.parse_calls.specs.declared.lookups.Found.TheVariants.{Fault, Nothing, Reduce, Shift}
use Rattle.parse_calls.specs.declared.lookups.Target.{Target}
use Rattle.parse_calls.specs.declared.lookups.Target.TheVariants.{Fault as NoTarget, Nothing as NoGoto, State}
use Rattle.parse_calls.specs.declared.machine.Ending.{Ending}
use Rattle.parse_calls.specs.declared.machine.Ending.TheVariants.{AllShifted, CutOff, Faulty, Finished, Refused}
use Rattle.parse_calls.specs.declared.parse.Answer.{Answer}
use Rattle.parse_calls.specs.declared.places.Counts.{Counts}

-- a status and numbers
pub record Numbers : Type 0 where
  pub status : ℕ
  pub numbers : List ℕ

-- a call has the status, and it copied the numbers to a room
pub record IsGiven (answer : Numbers) (status : ℕ) (old new : List ℕ) (count : ℕ) : Type 0 where
  pub ended : status ≡ answer.status
  pub copied : IsCopied answer.numbers old new count

-- ---- actions and gotos
-- the answer for a reduction by a production, of which the nonterminal and the length of the right
-- side are known
abbrev pub reduce_answer : ℕ → Option (ℕ × ℕ) → Numbers
reduce_answer production None = record { status = 2; numbers = [] }
reduce_answer production (Some side) = record { status = 0; numbers = 1 ∷ production ∷ side.0 ∷ side.1 ∷ [] }

-- the answer for an action
abbrev pub found_answer : List ℕ → Found → Numbers
found_answer tables Fault = record { status = 2; numbers = [] }
found_answer tables Nothing = record { status = 1; numbers = [] }
found_answer tables (Shift target) = record { status = 0; numbers = 0 ∷ target ∷ [] }
found_answer tables (Reduce production) = reduce_answer production (side_at tables production)

-- the answer for the action of a state on a token
abbrev pub action_answer : List ℕ → ℕ → ℕ → Numbers
action_answer tables state token = found_answer tables (action_at tables state token)

-- the answer for a goto
abbrev pub target_answer : Target → Numbers
target_answer NoTarget = record { status = 2; numbers = [] }
target_answer NoGoto = record { status = 1; numbers = [] }
target_answer (State target) = record { status = 0; numbers = target ∷ [] }

-- the answer for the goto of a state on a nonterminal
abbrev pub goto_answer : List ℕ → ℕ → ℕ → Numbers
goto_answer tables state nonterminal = target_answer (goto_at tables state nonterminal)

-- ---- parses
-- the answer for a parse: a status, numbers, and how many tokens were read
pub record Parse : Type 0 where
  pub status : ℕ
  pub numbers : List ℕ
  pub read : ℕ

-- the answer of the code is one
pub record IsAnswer (parse : Parse) (answer : Answer) : Type 0 where
  pub status : answer.status ≡ parse.status
  pub numbers : answer.numbers.items ≡ parse.numbers
  pub read : answer.read ≡ parse.read

-- the answer for a fault
abbrev pub fault : Parse
fault = record { status = 2; numbers = []; read = 0 }

-- the state on top of a stack, or 0 if there is none
abbrev pub top_of : List ℕ → ℕ
top_of stack = slice_index stack (length stack - 1)

-- the answer for a run that stopped, with a number that says why: its events, and that number with
-- the state on top
abbrev pub stopped : ℕ → List ℕ → List ℕ → ℕ → Parse
stopped why stack events read = record { status = 1; numbers = events ++ why ∷ top_of stack ∷ []; read = read }

-- the answer for a run that has read the tokens, by how it ended at the end of the input
abbrev pub finished_by : Ending → ℕ → (stack events : List ℕ) → Parse
finished_by (Finished true) read stack events = record { status = 0; numbers = events; read = read }
finished_by (Finished false) read stack events = stopped 2 stack events read
finished_by AllShifted read stack events = stopped 2 stack events read
finished_by Refused read stack events = stopped 2 stack events read
finished_by CutOff read stack events = stopped 3 stack events read
finished_by Faulty read stack events = fault

-- the answer for a run that has read so many tokens, and then made a run on the end of the input
abbrev pub finished : ℕ → Run → Parse
finished read r = finished_by r.ending read r.stack r.events

-- the answer for a run that has read so many tokens, by how it ended. If it has shifted all, it goes
-- on with the end of the input, whose number is known, in the steps that are left
abbrev pub ended_by : Ending → List ℕ → ℕ → ℕ → ℕ → (stack events : List ℕ) → Parse
ended_by AllShifted tables end read left stack events = finished read (run tables left stack events (end ∷ []))
ended_by Refused tables end read left stack events = stopped 2 stack events read
ended_by (Finished alone) tables end read left stack events = stopped 2 stack events read
ended_by CutOff tables end read left stack events = stopped 3 stack events read
ended_by Faulty tables end read left stack events = fault

-- the answer for a run over tokens, if the number of the end of the input is known
abbrev pub ended : List ℕ → List ℕ → ℕ → Run → Parse
ended tables tokens end r = ended_by r.ending tables end (length tokens - length r.unread) r.left r.stack r.events

-- whether all tokens are below a number
abbrev pub are_below : ℕ → List ℕ → Bool
are_below count tokens = list_all (λ (token : ℕ). nat_lt token count) tokens

-- the counts, if all tokens are terminals
abbrev pub if_terminals : List ℕ → Option Counts → Option Counts
if_terminals tokens None = None
if_terminals tokens (Some counts) = cond (are_below counts.terminals tokens) (Some counts) None

-- the counts of tables, if the list begins as tables do, and all tokens are terminals
abbrev pub counts_for : List ℕ → List ℕ → Option Counts
counts_for tables tokens = if_terminals tokens (counts_of tables)

-- the answer for tokens, if the counts are known
abbrev pub parse_with : List ℕ → List ℕ → ℕ → Option Counts → Parse
parse_with tables tokens limit None = fault
parse_with tables tokens limit (Some counts) = ended tables tokens counts.terminals (run tables limit (0 ∷ []) [] tokens)

-- the answer for a parse of tokens in at most so many steps
abbrev pub parse_answer : List ℕ → List ℕ → ℕ → Parse
parse_answer tables tokens limit = parse_with tables tokens limit (counts_for tables tokens)

-- a call has the status 3 and no numbers, since an allocation failed
pub record IsOutOfMemory (status : ℕ) (old new : List ℕ) (count read : ℕ) : Type 0 where
  pub ended : status ≡ 3
  pub copied : IsCopied [] old new count
  pub nothing : read ≡ 0

-- a call has the status of a parse, and it copied its numbers to a room
pub record HasParse (parse : Parse) (status : ℕ) (old new : List ℕ) (count read : ℕ) : Type 0 where
  pub ended : status ≡ parse.status
  pub copied : IsCopied parse.numbers old new count
  pub shifted : read ≡ parse.read

-- a call has parsed tokens, or an allocation failed
abbrev pub IsParsed : (tables tokens : List ℕ) (limit status : ℕ) (old new : List ℕ) (count read : ℕ) → Type 0
IsParsed tables tokens limit status old new count read =
    HasParse (parse_answer tables tokens limit) status old new count read
    ⊎ IsOutOfMemory status old new count read
