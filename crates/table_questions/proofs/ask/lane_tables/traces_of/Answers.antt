use Rattle.std.proofs.Common.{List, arith, refl, subst}
use Rattle.lalrpop_base.specs.Words.{productions}
use Rattle.lalrpop_states.specs.declared.lookahead.nil.Nil.{Nil}
use Rattle.lalrpop_states.specs.declared.lr1_core.state.State.{State}
use Rattle.lalrpop_tables.specs.Words.{HaveOwnItems}
use Rattle.table_questions.proofs.OwnItems.{ready_traces}
use Rattle.table_questions.proofs.ask.lane_tables.traces_of.Goals as goal

pub returns : goal.returns
returns c =
    let own = subst (λ (xs : List (State Nil)). HaveOwnItems (productions c.args.grammar.now) xs) c.deref.ensures.value (c.if-not-have_own_items.ensures.own.0 refl) in
    ready_traces _ c.in_ok-copy.copy c.requires c.in_ok-states.ensures own (let n = c.len.ensures in let past = c.if-state-len.false in omega arith)
