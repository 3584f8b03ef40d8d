use Rattle.std.proofs.Common.{◌≡◌, true}
use Rattle.lr1_theory.proofs.theory.conflicts.Conflicts.{no_conflict_lr1, lr1_no_conflict, empty_list, one_list_of_conflicts, state_conflicts}
use Rattle.lalrpop_grammar.proofs.theory.conflicts.ConflictLists.{conflict_list}
use Rattle.lr1_theory.proofs.laws.conflicts.Goals as goal

pub returns-clause-none : goal.returns-clause-none
returns-clause-none c order o g start = (no_conflict_lr1 order o g start, lr1_no_conflict order o g start)

pub returns-clause-one_list : goal.returns-clause-one_list
returns-clause-one_list c = one_list_of_conflicts

pub returns-clause-of_states : goal.returns-clause-of_states
returns-clause-of_states c terminals productions o g start states tokens h = state_conflicts terminals productions o g start states (λ n p dot t. tokens n p dot t ≡ true) h

pub returns-clause-empty : goal.returns-clause-empty
returns-clause-empty c = empty_list

pub returns-clause-listed : goal.returns-clause-listed
returns-clause-listed c = conflict_list
