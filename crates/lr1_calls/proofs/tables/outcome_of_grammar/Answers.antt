use Rattle.std.proofs.Common.{IfOk, subst}
use Rattle.lalrpop_grammar.specs.declared.repr.NonterminalString.{NonterminalString}
use Rattle.lalrpop_grammar.specs.declared.repr.norm_error.NormError.TheVariants.{Cycle, TooManyActions}
use Rattle.lalrpop_inline.specs.Words.{IsRefusalOf}
use Rattle.program_answers.specs.Inlined.{IsInlining}
use Rattle.lr1_calls.specs.Tables.{IsOutcomeFor, ring, too_many_inlined}
use Rattle.lr1_calls.proofs.Outcomes.{right_for_text}
use Rattle.lr1_calls.proofs.tables.outcome_of_grammar.Goals as goal

pub returns-in-Ok : goal.returns-in-Ok
returns-in-Ok c = λ text of_text.
    let e = c.in-Ok.ensures in
    let inlining : IsInlining c.args.grammar c.in-Ok.inlined = record { inlined = e.inlined; well_formed = e.well_formed; unmentioned = e.unmentioned; terminal_lists = e.terminal_lists } in
    let right = subst (λ (a : NonterminalString). IfOk c.outcome_of_inlined.result (IsOutcomeFor c.args.method c.args.items a c.in-Ok.inlined)) c.in_ok-name.ensures c.outcome_of_inlined.ensures in
    right_for_text c.args.method c.args.items text c.args.start.now c.args.grammar c.in-Ok.inlined of_text inlining c.outcome_of_inlined.result right

pub returns-in-Err-Cycle : goal.returns-in-Err-Cycle
returns-in-Err-Cycle c = λ text of_text.
    let cycle = c.in-Err-Cycle in
    let refused : IsRefusalOf c.args.grammar (Cycle cycle.field-0-0 cycle.field-0-1) = subst (IsRefusalOf c.args.grammar) cycle.field-0-is cycle.ensures.refused in
    ring c.args.grammar cycle.field-0-1 of_text refused.0

pub returns-in-Err-TooManyActions : goal.returns-in-Err-TooManyActions
returns-in-Err-TooManyActions c = λ text of_text.
    let refused : IsRefusalOf c.args.grammar TooManyActions = subst (IsRefusalOf c.args.grammar) c.in-Err-TooManyActions.field-0-is c.in-Err-TooManyActions.ensures.refused in
    too_many_inlined c.args.grammar of_text refused
