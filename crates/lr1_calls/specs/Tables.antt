-- The numbers of the tables of a grammar text, in the memory of a caller. A text and a start symbol
-- are lists of bytes.
use Rattle.std.specs.Prelude.{◌≡◌, ◌⊎◌, ℕ, Bool, true, false, List, [], None, position}
use Rattle.std.specs.BTreeMap.{get}
use Rattle.std.specs.Str.{IsUtf8}
use Rattle.grammar_text.specs.Faults.{IsFaultOf}
use Rattle.grammar_text.specs.Grammar.{StandsFor}
use Rattle.grammar_text.specs.Lines.{is_fault, lines_of}
use Rattle.grammar_text.specs.Symbols.{name_of}
use Rattle.grammar_text.specs.declared.read_error.ReadError.TheVariants.{Line, TooManyActions}
use Rattle.lalrpop_base.specs.Words.{Bits, IsLR1, contents, name_cmp, productions}
use Rattle.lalrpop_construction.specs.declared.options.Method.{Method}
use Rattle.lalrpop_grammar.specs.declared.repr.NonterminalString.{NonterminalString}
use Rattle.lalrpop_grammar.specs.declared.repr.grammar.Grammar.{Grammar}
use Rattle.lalrpop_inline.specs.Words.{HasTooMany, IsOnRing}
use Rattle.lalrpop_states.specs.declared.lr1_core.state.State.{State}
use Rattle.lalrpop_tables.specs.Words.{AreTablesOf}
use Rattle.program_answers.specs.Inlined.{IsInlining}
use Rattle.program_answers.specs.Texts.{most_copies}
use Rattle.table_numbers.specs.Words.{AreNumbersOf, AreWholeNumbersOf, lists_of}
use Rattle.lr1_calls.specs.Copied.{IsCopied}
use Rattle.lr1_calls.specs.declared.tables.Outcome.{Outcome}
use Rattle.lr1_calls.specs.declared.tables.Outcome.TheVariants.{Conflicts, Fault, Memory, Numbers}

-- ---- the grammar of a text
-- bytes are a text without a faulty line, which stands for a grammar
pub record IsTextOf (bytes : List ℕ) (g : Grammar) : Type 0 where
  pub utf8 : IsUtf8 bytes
  pub right : position is_fault (lines_of bytes) ≡ None
  pub stands : StandsFor (lines_of bytes) g

-- `P` holds of the grammar of a text, with its marked nonterminals inlined
pub record OfInlined (bytes : List ℕ) (P : Grammar → Type 0) : Type 0 where
  pub grammar : Grammar
  pub of_text : IsTextOf bytes grammar
  pub inlined : Grammar
  pub inlining : IsInlining grammar inlined
  pub holds : P inlined

-- ---- numbers
-- the states are tables that the method makes for a grammar and a start symbol
abbrev pub AreMadeTables : Method → Grammar → NonterminalString → List (State Bits) → Type 0
AreMadeTables method g start states = AreTablesOf ⊥ method most_copies g start states

-- the numbers are those of states for a grammar, with items or without
abbrev pub AreNumbersFor : Bool → Grammar → List ℕ → List (State Bits) → Type 0
AreNumbersFor true g numbers states = AreWholeNumbersOf (lists_of g) numbers states
AreNumbersFor false g numbers states = AreNumbersOf (lists_of g) numbers (contents g.terminals states)

-- the numbers are those of tables that the method makes for a grammar and a start symbol
pub record AreTheNumbers (method : Method) (items : Bool) (start : NonterminalString) (numbers : List ℕ) (g : Grammar) : Type 0 where
  pub states : List (State Bits)
  pub tables : AreMadeTables method g start states
  pub laid_out : AreNumbersFor items g numbers states

-- ---- faults
-- there are tables of a grammar and a start symbol
pub record HasTables (method : Method) (start : NonterminalString) (g : Grammar) : Type 0 where
  pub states : List (State Bits)
  pub tables : AreMadeTables method g start states

-- why a text and a start symbol have no tables, or tables without numbers
pub data IsFaulty (method : Method) (text start : List ℕ) : Type 0 where
  -- the text is not UTF-8
  no_text : ¬ IsUtf8 text → IsFaulty method text start
  -- the start symbol is not UTF-8
  no_start_text : ¬ IsUtf8 start → IsFaulty method text start
  -- a line is no grammar line
  faulty_line : (n : ℕ) → IsUtf8 text → IsFaultOf (lines_of text) (Line n) → IsFaulty method text start
  -- there are more actions than numbers for them
  too_many : IsUtf8 text → IsFaultOf (lines_of text) TooManyActions → IsFaulty method text start
  too_many_inlined : (g : Grammar) → IsTextOf text g → HasTooMany g → IsFaulty method text start
  -- marked nonterminals mention each other in a ring
  ring : (g : Grammar) (a : NonterminalString) → IsTextOf text g → IsOnRing g a → IsFaulty method text start
  -- the start symbol is no nonterminal of the grammar
  no_start : OfInlined text (λ g. get name_cmp g.nonterminals (name_of start) ≡ None) → IsFaulty method text start
  -- there are tables, and no numbers of them: one would have more than 32 bits
  no_numbers : OfInlined text (HasTables method (name_of start)) → IsFaulty method text start

-- ---- the outcome of a call
-- an outcome is right for a text and a start symbol: the numbers of tables; conflicts, so that the
-- grammar is not LR(1); a fault; or an allocation failure, of which nothing is said
abbrev pub IsOutcome : Method → (items : Bool) → (text start : List ℕ) → Outcome → Type 0
IsOutcome method items text start (Numbers v) = OfInlined text (AreTheNumbers method items (name_of start) v.items)
IsOutcome method items text start Conflicts = OfInlined text (λ g. ¬ IsLR1 (productions g) (name_of start))
IsOutcome method items text start Fault = IsFaulty method text start
IsOutcome method items text start Memory = Unit {0}

-- an outcome is right for a grammar without marked nonterminals and a start symbol
abbrev pub IsOutcomeFor : Method → (items : Bool) → NonterminalString → Grammar → Outcome → Type 0
IsOutcomeFor method items start g (Numbers v) = AreTheNumbers method items start v.items g
IsOutcomeFor method items start g Conflicts = ¬ IsLR1 (productions g) start
IsOutcomeFor method items start g Fault = (get name_cmp g.nonterminals start ≡ None) ⊎ HasTables method start g
IsOutcomeFor method items start g Memory = Unit {0}

-- an outcome is the numbers of states for a grammar, or says that they have none
abbrev pub AreNumbersIfAny : Bool → Grammar → List (State Bits) → Outcome → Type 0
AreNumbersIfAny items g states (Numbers v) = AreNumbersFor items g v.items states
AreNumbersIfAny items g states Conflicts = ⊥
AreNumbersIfAny items g states Fault = Unit {0}
AreNumbersIfAny items g states Memory = ⊥

-- the status of an outcome
abbrev pub status_of : Outcome → ℕ
status_of (Numbers v) = 0
status_of Conflicts = 1
status_of Fault = 2
status_of Memory = 3

-- the numbers of an outcome; there are none unless it is tables
abbrev pub numbers_in : Outcome → List ℕ
numbers_in (Numbers v) = v.items
numbers_in Conflicts = []
numbers_in Fault = []
numbers_in Memory = []

-- a call has a status, and it copied the numbers of a right outcome to a room
pub record AreGiven (method : Method) (items : Bool) (text start : List ℕ) (status : ℕ) (old new : List ℕ) (count : ℕ) : Type 0 where
  pub outcome : Outcome
  pub right : IsOutcome method items text start outcome
  pub ended : status ≡ status_of outcome
  pub copied : IsCopied (numbers_in outcome) old new count
