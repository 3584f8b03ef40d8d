use Rattle.std.proofs.Common.{List, subst, sym}
use Rattle.lalrpop_base.specs.Words.{Bits, rules_of, AreAllConflictFree}
use Rattle.lalrpop_lane_states.proofs.Types.{State}
use Rattle.lalrpop_lane_states.proofs.theory.lane_states.LaneAnswers.{was_met, was_resolved}
use Rattle.lalrpop_lane_states.proofs.theory.lane_states.Lr0Copies.{copied_free}
use Rattle.lalrpop_lane_states.proofs.lane_table.construct.LaneTableConstruct.construct_or_none.Goals as goal

-- ---- the states were tables at once
pub returns-then-at_once-clause-tables : goal.returns-then-at_once-clause-tables
returns-then-at_once-clause-tables c =
    let told = c.in_ok-states.ensures in
    copied_free (rules_of c.args.self.now.grammar.now) c.args.self.now.start c.args.self.now.max_copies c.in_ok-states.states.items told.copies (told.free c.if-at_once.true)

pub returns-then-at_once-clause-at_once : goal.returns-then-at_once-clause-at_once
returns-then-at_once-clause-at_once c _ alone = was_resolved c.in_ok-states.at_once _ _ c.if-at_once.true (c.in_ok-states.ensures.lalr alone)

pub returns-then-at_once-clause-lalr : goal.returns-then-at_once-clause-lalr
returns-then-at_once-clause-lalr c alone _ = was_resolved c.in_ok-states.at_once _ _ c.if-at_once.true (c.in_ok-states.ensures.lalr alone)

-- ---- one of the states has a conflict
pub returns-then-not-branch-clause-tables : goal.returns-then-not-branch-clause-tables
returns-then-not-branch-clause-tables c = record {
  states = c.in_ok-states.states.items;
  made = c.in_ok-states.ensures.copies;
  some = λ free. let yes = c.in_ok-have_no_conflict.ensures.1 (subst (λ (xs : List (State Bits)). AreAllConflictFree c.args.self.now.grammar.now.terminals xs) (sym c.deref.ensures.value) free) in cc;
}

pub returns-then-not-branch-clause-lalr : goal.returns-then-not-branch-clause-lalr
returns-then-not-branch-clause-lalr c alone lalr = absurd (was_met c.in_ok-states.at_once _ _ c.if-at_once.false (c.in_ok-states.ensures.lalr alone) lalr)

-- ---- none of the states has a conflict
pub returns-clause-tables : goal.returns-clause-tables
returns-clause-tables c =
    let free = subst (λ (xs : List (State Bits)). AreAllConflictFree c.args.self.now.grammar.now.terminals xs) c.deref.ensures.value (c.in_ok-have_no_conflict.ensures.0 c.if-not-branch.false) in
    copied_free (rules_of c.args.self.now.grammar.now) c.args.self.now.start c.args.self.now.max_copies c.in_ok-states.states.items c.in_ok-states.ensures.copies free

pub returns-clause-lalr : goal.returns-clause-lalr
returns-clause-lalr c alone lalr = absurd (was_met c.in_ok-states.at_once _ _ c.if-at_once.false (c.in_ok-states.ensures.lalr alone) lalr)
