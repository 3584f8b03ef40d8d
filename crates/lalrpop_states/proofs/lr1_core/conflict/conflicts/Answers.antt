use Rattle.std.proofs.Common.{◌≡◌, [], List, sym, subst}
use Rattle.std.specs.Prelude.{◌↔◌}
use Rattle.lalrpop_collections.specs.Words.{Bits}
use Rattle.lalrpop_states.proofs.Types.{Conflict}
use Rattle.lalrpop_states.specs.conflicts.StateConflicts.{IsConflictFree}
use Rattle.lalrpop_states.proofs.theory.conflicts.ConflictLemmas.{none_exactly}
use Rattle.lalrpop_states.proofs.lr1_core.conflict.conflicts.Goals as goal

pub returns-clause-none : goal.returns-clause-none
returns-clause-none c =
    subst (λ (list : List (Conflict Bits)). (list ≡ []) ↔ IsConflictFree c.args.terminals.now c.args.state.now) (sym c.in_ok-list.ensures)
    (none_exactly c.args.terminals.now c.args.state.now)
