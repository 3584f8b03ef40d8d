use Rattle.std.proofs.Common.{refl}
use Rattle.lalrpop_check.proofs.theory.check.NumberedPass.{items_within, passed, passed_places}
use Rattle.lalrpop_check.proofs.theory.check.NumberedRight.{all_reached, numbered_states, of_grammar}
use Rattle.lalrpop_check.proofs.check.by_number.numbered_pass.Goals as goal

pub all_lead_on-requires : goal.all_lead_on-requires
all_lead_on-requires c s k state at among = items_within c.args.grammar.now c.args.start.now c.args.numbers.now c.requires.numbers c.args.states.now c.args.numbered.now c.requires.listed s k state at among

pub new-requires-clause-closed : goal.new-requires-clause-closed
new-requires-clause-closed c =
    passed_places c.args.grammar.now c.args.start.now c.args.numbers.now c.requires.numbers c.args.states.now c.args.numbered.now c.requires.listed c.requires.coherent c.requires.some
    (c.if-not-all_lead_on.ensures refl) (c.if-lead_to_first.ensures refl) (c.in_ok-are_reached.ensures c.if-not-branch.false) (c.in_ok-have_no_conflict.ensures.0 c.if-not-branch-2.false)

pub new-requires-clause-reached : goal.new-requires-clause-reached
new-requires-clause-reached c = all_reached c.args.grammar.now c.args.numbers.now c.requires.numbers c.args.start.now c.args.states.now c.args.numbered.now c.requires.listed (c.in_ok-are_reached.ensures c.if-not-branch.false)

pub new-requires-clause-own : goal.new-requires-clause-own
new-requires-clause-own c = of_grammar c.args.grammar.now c.args.numbers.now c.requires.numbers c.args.start.now c.args.states.now c.args.numbered.now c.requires.listed

pub new-requires-clause-numbered : goal.new-requires-clause-numbered
new-requires-clause-numbered c = numbered_states c.args.grammar.now c.args.numbers.now c.requires.numbers c.args.start.now c.args.states.now c.args.numbered.now c.requires.listed

pub hold_lookaheads-requires-clause-counted : goal.hold_lookaheads-requires-clause-counted
hold_lookaheads-requires-clause-counted c = c.requires.listed.counted

pub hold_lookaheads-requires-clause-found : goal.hold_lookaheads-requires-clause-found
hold_lookaheads-requires-clause-found c = c.in_ok-found.ensures.counted

pub hold_lookaheads-requires-clause-within : goal.hold_lookaheads-requires-clause-within
hold_lookaheads-requires-clause-within c s k m there = c.in_ok-found.ensures.within s k m there

pub hold_lookaheads-requires-clause-reduced : goal.hold_lookaheads-requires-clause-reduced
hold_lookaheads-requires-clause-reduced c s old state at_old at = (c.requires.listed.each s old state at_old at).over.reduced.counted

pub returns : goal.returns
returns c = λ yes.
    passed c.args.grammar.now c.args.start.now c.args.numbers.now c.requires.numbers c.args.states.now c.args.numbered.now c.requires.listed c.requires.coherent c.requires.some
    (c.if-not-all_lead_on.ensures refl) (c.if-lead_to_first.ensures refl) (c.in_ok-are_reached.ensures c.if-not-branch.false) (c.in_ok-have_no_conflict.ensures.0 c.if-not-branch-2.false)
    c.requires.well_formed c.all-terminals.ensures.distinct c.in_ok-found.found c.in_ok-found.ensures (c.in_ok-held.ensures yes)
