-- The stack of a machine, as that of a configuration, and what the code's steps do.
use Rattle.std.specs.Prelude.{◌≡◌, ◌↔◌, ℕ, suc, ◌+◌, true, List, [], length, map, reverse, Some}
use Rattle.lalrpop_base.specs.Words.{Configuration, Contents, ShiftTo, Stands, Tree, action_on, move, next_token}
use Rattle.lalrpop_grammar.specs.declared.repr.Production.{Production}
use Rattle.lalrpop_grammar.specs.declared.repr.TerminalString.{TerminalString}
use Rattle.table_parser.specs.Events.{Event, starts, width}
use Rattle.table_parser.specs.Steps.{Handles, IsFinal, IsStep}
use Rattle.table_parser.specs.declared.machine.Machine.{Machine}
use Rattle.table_parser.specs.declared.machine.Progress.{Progress}
use Rattle.table_parser.specs.declared.machine.Progress.TheVariants.{CanShift, Ended, Stuck}
use Rattle.table_parser.specs.declared.machine.Reduced.{Reduced}
use Rattle.table_parser.specs.declared.machine.Reduced.TheVariants.{GoesOn, Ends as EndsRun}

-- the states below the top, the newest first, from a list with the newest last
abbrev pub numbers_below : List (ℕ × ℕ) → List ℕ
numbers_below below = map (λ (e : ℕ × ℕ). e.0) (reverse below)

-- the positions at which the symbols over them begin, the newest first
abbrev pub starts_below : List (ℕ × ℕ) → List ℕ
starts_below below = map (λ (e : ℕ × ℕ). e.1) (reverse below)

-- the machine is at a configuration
pub record IsAt (m : Machine) (c : Configuration) : Type 0 where
  pub state : m.state ≡ c.state
  pub below : numbers_below m.below.items ≡ c.below
  pub starts : starts_below m.below.items ≡ starts c.trees
  pub position : m.position ≡ width c.trees

-- a machine is a copy of another
pub record IsCopyOf (m copy : Machine) : Type 0 where
  pub table : copy.table ≡ m.table
  pub state : copy.state ≡ m.state
  pub below : copy.below.items ≡ m.below.items
  pub position : copy.position ≡ m.position
  pub left : copy.left ≡ m.left

-- the machine is at the beginning of a run with a limit
pub record IsFresh (limit : ℕ) (m : Machine) : Type 0 where
  pub state : m.state ≡ 0
  pub below : m.below.items ≡ []
  pub position : m.position ≡ 0
  pub left : m.left ≡ limit

-- one step was spent, and the table stays
pub record IsSpent (old new : Machine) : Type 0 where
  pub counted : suc new.left ≡ old.left
  pub table : new.table ≡ old.table

module _ (terminals : List TerminalString) (productions : List Production) (states : ℕ → Contents) {H : Type 0} (takes : H → Event → H → Type 0) where
  -- a reduction was made from a configuration. It is a step, or the final one
  abbrev pub IsReduction : Configuration → Machine → H → Machine → H → Reduced → Type 0
  IsReduction c old h new i GoesOn = (d : Configuration) × IsStep terminals productions states takes c d h i × IsAt new d × (d.rest ≡ c.rest)
  IsReduction c old h new i (EndsRun alone) = (trees : List Tree) × IsFinal terminals productions states takes c trees h i × ((alone ≡ true) ↔ (length trees ≡ 1)) × (new.state ≡ c.state) × (new.position ≡ width c.trees)

  -- steps that read nothing were made from a configuration; so many are left
  pub record HasReduced (c : Configuration) (old : Machine) (h : H) (left : ℕ) (d : Configuration) (i : H) : Type 0 where
    pub steps : ℕ
    pub handled : Handles terminals productions states takes steps c h d i
    pub rest : d.rest ≡ c.rest
    pub counted : steps + left ≡ old.left

  -- what can be done after such steps: a shift; nothing; or nothing, since another reduction was
  -- final
  abbrev pub IsProgress : Configuration → Machine → H → Machine → H → Progress → Type 0
  IsProgress c old h new i (CanShift target) = (d : Configuration) × HasReduced c old h new.left d i × IsAt new d × (action_on (states d.state) (next_token d.rest) ≡ Some (ShiftTo target))
  IsProgress c old h new i Stuck = (d : Configuration) × HasReduced c old h new.left d i × IsAt new d × (move states d ≡ Stands)
  IsProgress c old h new i (Ended alone) = (d : Configuration) × (j : H) × HasReduced c old h (suc new.left) d j × (trees : List Tree) × IsFinal terminals productions states takes d trees j i × ((alone ≡ true) ↔ (length trees ≡ 1)) × (new.state ≡ d.state) × (new.position ≡ width d.trees)
