use Rattle.std.proofs.Common.{rules, arith, lit<, ◌≡◌, ◌<◌, ◌+◌, ◌∷◌, [], drop, get_or, length, refl, sym, ap, ◌∙◌}
use Rattle.std.proofs.lemmas.Iterator.Consumers.{YieldsList-turn, YieldsList-end}
use Rattle.std.proofs.lemmas.Iterator.Splits.{YieldsList-from_str_split}
use Rattle.std.proofs.lemmas.List.{at_drop_all, length_push}
use Rattle.grammar_text.specs.Lines.{is_fault}
use Rattle.grammar_text.proofs.Reading.{raw_lines, begun, next_line, ends_within, first_fault, more, no_fault_at_all, all_given, all_collected, few_collected, not_collected}
use Rattle.grammar_text.proofs.grammar.collected_of.Goals as goal
use Rattle.grammar_text.proofs.grammar.collected_of.Goals.{In-Some, In-None}

next : (c : In-Some) → drop c.loop-line.number (raw_lines c.args.text.now) ≡ c.in-Some.line.now ∷ drop (c.loop-line.number + 1) (raw_lines c.args.text.now)
next c =
    let l = c.loop-line in
    let lines = raw_lines c.args.text.now in
    let line = c.in-Some.line.now in
    let turn : (length l.yielded < length lines) × (line ≡ get_or lines (length l.yielded) line) = YieldsList-turn (YieldsList-from_str_split 10 c.args.text.now (lit< tt) (cc) (cc) (cc)) l.yielded _ l.yielded_by _ _ c.in-Some.line c.in-Some.is c.next.ensures.steps in
    next_line lines l.number line (omega (arith, turn.0, l.invariant.0)) (turn.1 ∙ ap (λ n. get_or lines n line) (sym l.invariant.0))

none : (c : In-None) → drop c.loop-line.number (raw_lines c.args.text.now) ≡ []
none c =
    let l = c.loop-line in
    let lines = raw_lines c.args.text.now in
    let counted : length l.yielded ≡ length lines = (YieldsList-end (YieldsList-from_str_split 10 c.args.text.now (lit< tt) (cc) (cc) (cc)) l.yielded _ l.yielded_by _ _ c.in-None.is c.next.ensures.steps).1 in
    at_drop_all (λ ls. ls) lines l.number (omega (arith, counted, l.invariant.0))

pub loop-line-init : goal.loop-line-init
loop-line-init c = (refl, begun c.args.text.now c.new.result c.new.ensures)

pub returns-then-is_no_grammar_line-clause-err : goal.returns-then-is_no_grammar_line-clause-err
returns-then-is_no_grammar_line-clause-err c =
    let l = c.loop-line in
    let fault = ap is_fault (sym c.in_ok-placed.ensures) ∙ sym c.is_no_grammar_line.ensures ∙ c.if-is_no_grammar_line.true in
    (l.number, first_fault c.args.text.now l.number l.at l.so_far l.invariant.1 c.in-Some.line.now (next (goal.at.returns-then-is_no_grammar_line-clause-err c).In-Some) fault, refl)

pub overflow_add-at-in-loop-line : goal.overflow_add-at-in-loop-line
overflow_add-at-in-loop-line c =
    let l = c.loop-line in
    omega (arith, ends_within c.args.text.now l.number l.at l.so_far l.invariant.1 c.in-Some.line.now (next (goal.at.overflow_add-at-in-loop-line c).In-Some))

pub loop-line-preserved : goal.loop-line-preserved
loop-line-preserved c =
    let l = c.loop-line in
    let right = ap is_fault (sym c.in_ok-placed.ensures) ∙ sym c.is_no_grammar_line.ensures ∙ c.if-is_no_grammar_line.false in
    let given = rw c.in_ok-placed.ensures at c.with_line-so_far.ensures l.invariant.1.done l.invariant.1.given in
    (omega (arith, l.invariant.0, length_push l.yielded c.in-Some.line), more c.args.text.now l.number l.at l.so_far l.invariant.1 c.in-Some.line.now (next (goal.at.loop-line-preserved c).In-Some) c.with_line-so_far.result right given)

pub returns-clause-ok : goal.returns-clause-ok
returns-clause-ok c =
    let l = c.loop-line in
    all_collected _ l.so_far (all_given c.args.text.now l.number l.at l.so_far l.invariant.1 (none (goal.at.returns-clause-ok c).In-None))

pub returns-clause-no_fault : goal.returns-clause-no_fault
returns-clause-no_fault c =
    let l = c.loop-line in
    let right = no_fault_at_all c.args.text.now l.number l.at l.so_far l.invariant.1 (none (goal.at.returns-clause-no_fault c).In-None) in
    search (rules, right)

pub returns-clause-few : goal.returns-clause-few
returns-clause-few c =
    let l = c.loop-line in
    few_collected _ l.so_far (all_given c.args.text.now l.number l.at l.so_far l.invariant.1 (none (goal.at.returns-clause-few c).In-None))

pub returns-clause-err : goal.returns-clause-err
returns-clause-err c =
    let l = c.loop-line in
    let end = none (goal.at.returns-clause-err c).In-None in
    not_collected _ l.so_far (no_fault_at_all c.args.text.now l.number l.at l.so_far l.invariant.1 end) (all_given c.args.text.now l.number l.at l.so_far l.invariant.1 end)
