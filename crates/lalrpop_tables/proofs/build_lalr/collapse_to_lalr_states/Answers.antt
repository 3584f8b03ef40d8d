use Rattle.lalrpop_tables.proofs.theory.collapse.CollapseLalr.{Collapse-tells}
use Rattle.lalrpop_tables.proofs.theory.collapse.CollapseResults.{Collapse-coherent, Collapse-some}
use Rattle.lalrpop_tables.proofs.build_lalr.collapse_to_lalr_states.Goals as goal

pub returns-clause-coherent : goal.returns-clause-coherent
returns-clause-coherent c = Collapse-coherent (λ tables. tables.items) c.args.terminals.now c.args.states.items c.requires.coherent c.merge_states.result c.merge_states.ensures.merged c.merge_states.ensures.ordered

pub returns-clause-some : goal.returns-clause-some
returns-clause-some c some = Collapse-some (λ tables. tables.items) c.args.terminals.now c.args.states.items some c.merge_states.result c.merge_states.ensures.merged

pub returns-clause-lalr : goal.returns-clause-lalr
returns-clause-lalr c g start same built = Collapse-tells (λ tables. tables.items) g start c.args.terminals.now c.all-terminals.ensures.distinct same c.args.states.items built c.merge_states.result c.merge_states.ensures.merged
