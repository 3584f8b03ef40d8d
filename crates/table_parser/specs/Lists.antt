-- Runs on lists of terminals, whose bits an iterator gives.
use Rattle.std.specs.Prelude.{◌≡◌, ◌⊎◌, ℕ, suc, ◌+◌, ◌≤◌, List, [], ◌∷◌, ◌++◌, length, map, slice_get, Option, Some}
use Rattle.std.specs.Iterator.{Drains, Yields}
use Rattle.lalrpop_base.specs.Words.{Configuration, Contents, HasOutcome, IsFirstWrong, IsPromptRefusal, Parsed, Refused as RefusedIn, Limit as CutOff, Stands, Tree, begin, move}
use Rattle.lalrpop_grammar.specs.declared.lookahead.token.Token.{Token}
use Rattle.lalrpop_grammar.specs.declared.lookahead.token.Token.TheVariants.{Eof, Terminal as TokenOf}
use Rattle.lalrpop_grammar.specs.declared.repr.TerminalString.{TerminalString}
use Rattle.lalrpop_parser.specs.Words.{ForEachCanonical, ForEachGrammar, IsTreeWithin}
use Rattle.parse_tables.specs.Tables.{IsTableOf}
use Rattle.parse_tables.specs.declared.table.ParseTable.{ParseTable}
use Rattle.table_parser.specs.Events.{Event}
use Rattle.table_parser.specs.Steps.{Handles, IsFinal}
use Rattle.table_parser.specs.declared.error.Refusal.{Refusal}

-- the terminals with these bits, in order
abbrev pub AreTerminals : List TerminalString → List ℕ → List TerminalString → Type 0
AreTerminals terminals bits w = map (slice_get terminals) bits ≡ map Some w

module _ (table : ParseTable) (states : ℕ → Contents) {H : Type 0} (takes : H → Event → H → Type 0) (limit : ℕ) (h : H) (w : List TerminalString) where
  -- the run on a list has made steps, which the handler took in order; so many are left
  pub record HasRun (left : ℕ) (c : Configuration) (i : H) : Type 0 where
    pub steps : ℕ
    pub handled : Handles table.terminals table.productions states takes steps (begin w) h c i
    pub counted : steps + left ≡ limit

  -- the run on a list ends with a tree, and the handler took all its steps. For a grammar to which
  -- the states are faithful it is the parse tree of the list
  pub record IsParsed (i : H) : Type 0 where
    pub left : ℕ
    pub last : Configuration
    pub before : H
    pub run : HasRun (suc left) last before
    pub tree : Tree
    pub final : IsFinal table.terminals table.productions states takes last (tree ∷ []) before i
    pub used_up : last.rest ≡ []
    pub outcome : HasOutcome states w limit (Parsed tree)
    pub parse : ForEachGrammar states (IsTreeWithin limit w tree)

  -- the run on a list ends with a refusal by a state of a token, and the handler took all its steps.
  -- For a grammar to which the states are faithful it is the first wrong token. Over canonical
  -- states it is refused right after the last right one
  pub record IsRefused (state : ℕ) (token : Token) (i : H) : Type 0 where
    pub left : ℕ
    pub last : Configuration
    pub before : H
    pub run : HasRun left last before
    pub why : ((move states last ≡ Stands) × (i ≡ before)) ⊎ ((trees : List Tree) × IsFinal table.terminals table.productions states takes last trees before i)
    pub outcome : HasOutcome states w limit (RefusedIn state token)
    pub wrong : ForEachGrammar states (λ g start. IsFirstWrong g start w token)
    pub prompt : ForEachCanonical states (λ g start. IsPromptRefusal g start states w state token)

module _ {S : Type 0} (gives : S → Option ℕ → S → Type 0) (input : S) (table : ParseTable) where
  module _ {H : Type 0} (takes : H → Event → H → Type 0) (limit : ℕ) (h i : H) where
    -- the iterator gave all its terminals, and they were parsed
    pub record HasParsedAll : Type 0 where
      pub bits : List ℕ
      pub drained : Drains gives input bits
      pub list : List TerminalString
      pub named : AreTerminals table.terminals bits list
      pub parsed : (states : ℕ → Contents) → IsTableOf table states → IsParsed table states takes limit h list i

    -- the terminal that the iterator gave last was refused, whatever comes after it
    pub record HasRefusedLast (refusal : Refusal) : Type 0 where
      pub bits : List ℕ
      pub left : S
      pub given : Yields gives input (bits ++ refusal.bit ∷ []) left
      pub position : refusal.position ≡ length bits
      pub list : List TerminalString
      pub named : AreTerminals table.terminals bits list
      pub terminal : TerminalString
      pub is : slice_get table.terminals refusal.bit ≡ Some terminal
      pub refused : (states : ℕ → Contents) → IsTableOf table states → (rest : List TerminalString) → IsRefused table states takes limit h (list ++ terminal ∷ rest) refusal.state (TokenOf terminal) i

    -- the iterator gave all its terminals, and the end of the input was refused
    pub record HasRefusedEnd (refusal : Refusal) : Type 0 where
      pub bits : List ℕ
      pub drained : Drains gives input bits
      pub position : refusal.position ≡ length bits
      pub list : List TerminalString
      pub named : AreTerminals table.terminals bits list
      pub is : refusal.bit ≡ length table.terminals
      pub refused : (states : ℕ → Contents) → IsTableOf table states → IsRefused table states takes limit h list refusal.state Eof i

    -- what a refusal says: of a terminal, or of the end of the input
    abbrev pub IsRefusalOf : Refusal → Type 0
    IsRefusalOf refusal = HasRefusedLast refusal ⊎ HasRefusedEnd refusal

  -- the limit was passed at the terminal that the iterator gave last, whatever comes after it
  pub record HasPassedLimit (limit : ℕ) : Type 0 where
    pub bits : List ℕ
    pub left : S
    pub given : Yields gives input bits left
    pub list : List TerminalString
    pub named : AreTerminals table.terminals bits list
    pub cut_off : (states : ℕ → Contents) → IsTableOf table states → (rest : List TerminalString) → HasOutcome states (list ++ rest) limit CutOff

  -- the iterator gave all its terminals, and the limit was passed at the end of the input
  pub record HasPassedLimitAtEnd (limit : ℕ) : Type 0 where
    pub bits : List ℕ
    pub drained : Drains gives input bits
    pub list : List TerminalString
    pub named : AreTerminals table.terminals bits list
    pub cut_off : (states : ℕ → Contents) → IsTableOf table states → HasOutcome states list limit CutOff

  -- where the limit was passed: at a terminal, or at the end of the input
  abbrev pub IsLimitOf : ℕ → Type 0
  IsLimitOf limit = HasPassedLimit limit ⊎ HasPassedLimitAtEnd limit

  -- the iterator gave terminals up to a position, and then a number that is no terminal
  pub record HasMetUnknown (position number : ℕ) : Type 0 where
    pub bits : List ℕ
    pub left : S
    pub given : Yields gives input (bits ++ number ∷ []) left
    pub counted : position ≡ length bits
    pub list : List TerminalString
    pub named : AreTerminals table.terminals bits list
    pub past : length table.terminals ≤ number
