-- States without conflicts, and states of which one has a conflict.
use Rattle.std.proofs.Common.{◌++◌, ◌∷◌, [], inl, inr, List, length, map, subst, arith}
use Rattle.lalrpop_base.specs.Words.{AllDiffer, AreAllConflictFree, AreOwn, Begins, Bits, IsClosureBy, IsClosureOf, IsLR1, IsWellFormed, Kernels, item_at_start, productions}
use Rattle.lalrpop_collections.proofs.theory.lists.Places.{push_cases}
use Rattle.lalrpop_collections.proofs.theory.states.KernelLemmas.{slice_get-push_at}
use Rattle.lalrpop_states.specs.closures.Closure.{itself}
use Rattle.lalrpop_states.specs.conflicts.StateConflicts.{IsConflictFree}
use Rattle.lalrpop_states.specs.states.Items.{Dotted}
use Rattle.lalrpop_construction.specs.Words.{ArePartlyBuilt, Construction, canonical_of}
use Rattle.lalrpop_construction.specs.canonical.ConflictFree.{HasConflict}
use Rattle.lalrpop_construction.specs.construction.Building.{Building}
use Rattle.lalrpop_construction.proofs.Types.{Grammar, NonterminalString, State, TerminalString}
use Rattle.lalrpop_construction.proofs.theory.closures.TokenTables.{Passes, built_of_by, closed}
use Rattle.lalrpop_construction.proofs.theory.conflicts.GrownConflicts.{free_states}
use Rattle.lalrpop_construction.proofs.theory.early_stop.StoppedConflicts.{conflict_not_lr1}

-- states that are built so far are built from the first kernels
pub partly_built : (c : Construction Bits) (kernels : Kernels (List (Dotted Bits))) (states : List (State Bits)) → Building itself (IsClosureBy itself Begins Passes c.rules) c.rules (map (item_at_start c.lookahead) c.first) kernels states → ArePartlyBuilt c.rules (map (item_at_start c.lookahead) c.first) states
partly_built c kernels states b = record {
  kernels = kernels.list;
  fewer = let h = b.handed in let f = b.fewer in omega arith;
  differ = b.differ;
  start = b.start;
  each = λ n state at. built_of_by (IsClosureBy itself Begins Passes c.rules) (IsClosureOf c.rules) (closed c.rules) kernels.list n state (b.each n state at);
  led = λ n later within. b.led n later (let h = b.handed in let f = b.fewer in omega arith);
}

-- a grammar whose canonical construction makes a state with a conflict is not LR(1)
pub Conflict-not : (g : Grammar) (start : NonterminalString) → IsWellFormed g → AreOwn g → AllDiffer g.terminals → HasConflict (canonical_of g start) → ¬ IsLR1 (productions g) start
Conflict-not g start well own differ h = conflict_not_lr1 g start well own differ h.states h.partly (λ none. h.conflict (free_states g.terminals h.states none))

-- one more state without conflicts
pub Free-more : (terminals : List TerminalString) (states : List (State Bits)) (state : State Bits) → AreAllConflictFree terminals states → IsConflictFree terminals state → AreAllConflictFree terminals (states ++ state ∷ [])
Free-more terminals states state before free k s at = elim (push_cases states state k s at) [ inl there ↦ before k s there | inr last ↦ subst (IsConflictFree terminals) last.1 free ]

-- one more state, which has a conflict
pub Free-not : (terminals : List TerminalString) (states : List (State Bits)) (state : State Bits) → ¬ IsConflictFree terminals state → ¬ AreAllConflictFree terminals (states ++ state ∷ [])
Free-not terminals states state not free = not (free (length states) state (slice_get-push_at states state))
