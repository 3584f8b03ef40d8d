use Rattle.std.proofs.Common.{◌≡◌, List, ◌∙◌, ap, arith, eqb-true, sym}
use Rattle.std.proofs.lemmas.List.{nil_from_length}
use Rattle.std.specs.Prelude.{vec_len}
use Rattle.std.specs.List.{flat_map}
use Rattle.lalrpop_base.specs.Words.{Bits, state_conflicts, rules_of}
use Rattle.lalrpop_lane_states.proofs.Types.{State}
use Rattle.lr1_theory.proofs.theory.states.CheckStates.{some_of}
use Rattle.lalrpop_lane_states.proofs.theory.lane_states.LaneAnswers.{was_met, was_resolved}
use Rattle.lalrpop_lane_states.proofs.theory.lane_states.Lr0Copies.{copied_conflicts, copied_free, copied_tables}
use Rattle.lalrpop_lane_states.proofs.lane_table.construct.LaneTableConstruct.construct.Goals as goal

-- ---- the states were tables at once
pub returns-then-at_once-clause-tables : goal.returns-then-at_once-clause-tables
returns-then-at_once-clause-tables c =
    let told = c.in_ok-states.ensures in
    copied_free (rules_of c.args.self.grammar.now) c.args.self.start c.args.self.max_copies c.in_ok-states.states.items told.copies (told.free c.if-at_once.true)

pub returns-then-at_once-clause-lalr : goal.returns-then-at_once-clause-lalr
returns-then-at_once-clause-lalr c alone _ = was_resolved c.in_ok-states.at_once _ _ c.if-at_once.true (c.in_ok-states.ensures.lalr alone)

-- ---- some states may be copies
pub returns-then-is_empty-clause-tables : goal.returns-then-is_empty-clause-tables
returns-then-is_empty-clause-tables c =
    let g = c.args.self.grammar.now in
    let all = c.in_ok-conflicts.ensures ∙ ap (λ (xs : List (State Bits)). flat_map (state_conflicts g.terminals) xs) c.deref.ensures.value in
    let none : vec_len c.in_ok-conflicts.conflicts ≡ 0 = eqb-true (vec_len c.in_ok-conflicts.conflicts) 0 (sym c.is_empty.ensures ∙ c.if-is_empty.true) in
    copied_tables (rules_of g) c.args.self.start c.args.self.max_copies c.in_ok-states.states.items c.in_ok-states.ensures.copies c.in_ok-conflicts.conflicts.items all
    (nil_from_length c.in_ok-conflicts.conflicts.items (let k = c.in_ok-conflicts.conflicts.ok in omega arith))

pub returns-then-is_empty-clause-lalr : goal.returns-then-is_empty-clause-lalr
returns-then-is_empty-clause-lalr c alone lalr = absurd (was_met c.in_ok-states.at_once _ _ c.if-at_once.false (c.in_ok-states.ensures.lalr alone) lalr)

pub returns-clause-failure : goal.returns-clause-failure
returns-clause-failure c =
    let g = c.args.self.grammar.now in
    let all = c.in_ok-conflicts.ensures ∙ ap (λ (xs : List (State Bits)). flat_map (state_conflicts g.terminals) xs) c.deref.ensures.value in
    let some = some_of (vec_len c.in_ok-conflicts.conflicts) (sym c.is_empty.ensures ∙ c.if-is_empty.false) in
    copied_conflicts (rules_of g) c.args.self.start c.args.self.max_copies c.in_ok-states.states.items c.in_ok-states.ensures.copies c.in_ok-conflicts.conflicts.items all (let k = c.in_ok-conflicts.conflicts.ok in omega arith)

pub returns-clause-lalr : goal.returns-clause-lalr
returns-clause-lalr c alone lalr = was_met c.in_ok-states.at_once _ _ c.if-at_once.false (c.in_ok-states.ensures.lalr alone) lalr
