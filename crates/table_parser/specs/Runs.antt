-- What the calls of a machine do, from any configuration that it is at.
use Rattle.std.specs.Prelude.{◌≡◌, ◌≢◌, ◌⊎◌, ℕ, suc, ◌+◌, List, [], ◌∷◌, Some, slice_get}
use Rattle.lalrpop_base.specs.Words.{Configuration, Contents, Stands, Tree, move}
use Rattle.lalrpop_grammar.specs.declared.repr.Production.{Production}
use Rattle.lalrpop_grammar.specs.declared.repr.TerminalString.{TerminalString}
use Rattle.parse_tables.specs.Tables.{IsTableOf}
use Rattle.table_parser.specs.Events.{Event, width}
use Rattle.table_parser.specs.Machines.{HasReduced, IsAt}
use Rattle.table_parser.specs.Steps.{Handles, IsFinal}
use Rattle.table_parser.specs.declared.error.Refusal.{Refusal}
use Rattle.table_parser.specs.declared.machine.Machine.{Machine}

-- the property holds from each configuration that the machine is at, by all states of its table, if
-- the terminal with a bit is the next one. The property is given what comes after the terminal
abbrev pub AtTerminal : Machine → ℕ → ((ℕ → Contents) → Configuration → List TerminalString → Type 0) → Type 0
AtTerminal m bit P = (states : ℕ → Contents) (c : Configuration) (t : TerminalString) (rest : List TerminalString) → IsTableOf m.table.now states → IsAt m c → slice_get m.table.now.terminals bit ≡ Some t → c.rest ≡ t ∷ rest → P states c rest

-- the same, if the end of the input is next
abbrev pub AtEnd : Machine → ((ℕ → Contents) → Configuration → Type 0) → Type 0
AtEnd m P = (states : ℕ → Contents) (c : Configuration) → IsTableOf m.table.now states → IsAt m c → c.rest ≡ [] → P states c

module _ (terminals : List TerminalString) (productions : List Production) (states : ℕ → Contents) {H : Type 0} (takes : H → Event → H → Type 0) (c : Configuration) (old : Machine) (h : H) where
  -- the machine read terminals until only the rest is left
  pub record HasRead (remaining : List TerminalString) (new : Machine) (i : H) : Type 0 where
    pub steps : ℕ
    pub to : Configuration
    pub handled : Handles terminals productions states takes steps c h to i
    pub at : IsAt new to
    pub rest : to.rest ≡ remaining
    pub counted : steps + new.left ≡ old.left

  -- the token with a bit was refused, by a configuration without a step, or with a final one that
  -- leaves no parse
  pub record IsRefusal (is_parse : List Tree → Type 0) (bit : ℕ) (refusal : Refusal) (i : H) : Type 0 where
    pub left : ℕ
    pub at : Configuration
    pub handler : H
    pub reduced : HasReduced terminals productions states takes c old h left at handler
    pub state : refusal.state ≡ at.state
    pub position : refusal.position ≡ width at.trees
    pub token : refusal.bit ≡ bit
    pub why : ((move states at ≡ Stands) × (i ≡ handler)) ⊎ ((more : ℕ) × (left ≡ suc more) × (trees : List Tree) × IsFinal terminals productions states takes at trees handler i × (is_parse trees → ⊥))

  -- the last step of a run left one tree, and no input
  pub record HasParsed (new : Machine) (i : H) : Type 0 where
    pub at : Configuration
    pub handler : H
    pub reduced : HasReduced terminals productions states takes c old h (suc new.left) at handler
    pub tree : Tree
    pub final : IsFinal terminals productions states takes at (tree ∷ []) handler i

  -- all steps were spent, and there is another
  pub record IsCutOff : Type 0 where
    pub at : Configuration
    pub handler : H
    pub reduced : HasReduced terminals productions states takes c old h 0 at handler
    pub another : move states at ≢ Stands
