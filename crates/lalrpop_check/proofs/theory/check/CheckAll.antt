-- The check as a whole.
use Rattle.std.proofs.Common.{◌↔◌, ◌<◌, ℕ, List, length}
use Rattle.std.specs.Prelude.{Contains}
use Rattle.std.specs.BTreeSet.{BTreeSet}
use Rattle.lalrpop_base.specs.Words.{Bits, AreChecked, AreCoherent, contents, Dotted, AreFaithful, productions, IsTarget, AreRightStates}
use Rattle.lalrpop_check.specs.Words.{HoldCarried, PassCheck}
use Rattle.lalrpop_check.proofs.Types.{Grammar, Nil, NonterminalString, State}
use Rattle.lr1_theory.proofs.theory.closures.Closures.{checked_faithful}
use Rattle.lalrpop_states.specs.states.CheckStates.{AreListed}
use Rattle.lalrpop_check.proofs.theory.check.CheckTables.{Right-closed, Right-reductions, Right-free, Closed-right, free_states}

module _ (g : Grammar) (start : NonterminalString) (states : List (State Bits)) (coherent : AreCoherent states) (listed : List (BTreeSet (Dotted Nil))) (lists : AreListed states listed) (targets : List ℕ) (are_targets : (m : ℕ) → Contains targets m ↔ IsTarget states m) where
  pub Pass-all : 0 < length states → AreRightStates g start listed targets states → HoldCarried g start states → PassCheck g start states
  Pass-all some right held = record {
    closed = Right-closed g start states coherent listed lists targets are_targets right some;
    reductions = Right-reductions g start states coherent listed lists targets are_targets right;
    carried = held;
    no_conflict = Right-free g start states coherent listed lists targets are_targets right;
  }

  pub All-right : PassCheck g start states → AreRightStates g start listed targets states
  All-right pass = Closed-right g start states coherent listed lists targets are_targets pass.closed pass.reductions pass.no_conflict

pub Checked : (g : Grammar) (start : NonterminalString) (states : List (State Bits)) → PassCheck g start states → AreChecked (productions g) start (contents g.terminals states)
Checked g start states pass = record { closed = pass.closed; reductions = pass.reductions; carried = pass.carried; no_conflict = free_states g.terminals states pass.no_conflict }

pub Faithful : (g : Grammar) (start : NonterminalString) (states : List (State Bits)) → PassCheck g start states → AreFaithful (productions g) start (contents g.terminals states)
Faithful g start states pass = checked_faithful (productions g) start (contents g.terminals states) (Checked g start states pass)
