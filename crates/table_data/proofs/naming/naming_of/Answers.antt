use Rattle.std.proofs.Common.{[], List, subst}
use Rattle.std.specs.List.{flat_map}
use Rattle.lalrpop_base.specs.Words.{Bits}
use Rattle.table_data.specs.Naming.{all_tokens, conflict_sets, state_sets}
use Rattle.table_data.specs.Sets.{AddsSets}
use Rattle.table_data.proofs.NamedSets.{adds_both}
use Rattle.table_data.proofs.naming.naming_of.Goals as goal

pub returns-clause-sets : goal.returns-clause-sets
returns-clause-sets c =
    let states = (λ (all : Bits). flat_map (state_sets all) c.args.states.now) in
    adds_both (states (all_tokens c.args.terminals.now)) (flat_map conflict_sets c.args.conflicts.now) [] c.add_states.new.sets c.add_conflicts.new.sets
    (subst (λ (old : List Bits). AddsSets (states (all_tokens c.args.terminals.now)) old c.add_states.new.sets) c.new-sets.ensures
    (subst (λ (all : Bits). AddsSets (states all) c.new-sets.result c.add_states.new.sets) c.in_ok-all.ensures c.in_ok-add_states.ensures))
    c.in_ok-add_conflicts.ensures
