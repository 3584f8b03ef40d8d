use Rattle.lalrpop_base.specs.Words.{rules_of}
use Rattle.lalrpop_lane_states.proofs.theory.lane_states.LaneAnswers.{meet_not_lalr, none_told, some_told, tables_lalr}
use Rattle.lalrpop_lane_states.proofs.theory.lane_states.Lr0Copies.{lanes_copied}
use Rattle.lalrpop_lane_states.proofs.lane_table.construct.LaneTableConstruct.resolved.Goals as goal

-- ---- no two actions of a state share a token
pub returns-in_default-clause-copies : goal.returns-in_default-clause-copies
returns-in_default-clause-copies c =
    (lanes_copied (rules_of c.args.self.now.grammar.now) c.args.self.now.start c.args.self.now.max_copies c.resolve_states.new.states.items (none_told c.in_ok-first.field-0 _ _ c.in_default.not-Some c.in_ok-first.ensures.resolved)).made

pub returns-in_default-clause-free : goal.returns-in_default-clause-free
returns-in_default-clause-free c _ = (none_told c.in_ok-first.field-0 _ _ c.in_default.not-Some c.in_ok-first.ensures.resolved).free

pub returns-in_default-clause-lalr : goal.returns-in_default-clause-lalr
returns-in_default-clause-lalr c alone =
    let told = c.in_ok-first.ensures in
    tables_lalr c.args.self.now.grammar.now c.args.self.now.start c.requires.ready.well_formed c.all-terminals.ensures.distinct c.resolve_states.new.states.items told.lanes alone (none_told c.in_ok-first.field-0 _ _ c.in_default.not-Some told.resolved)

-- ---- two actions of a state share a token, so states may be copied
pub returns-clause-lalr : goal.returns-clause-lalr
returns-clause-lalr c alone lalr =
    let told = c.in_ok-first.ensures in
    let met = some_told c.in_ok-first.field-0 c.in-Some.first _ _ c.in-Some.is told.resolved in
    meet_not_lalr c.args.self.now.grammar.now c.args.self.now.start c.requires.ready.well_formed c.all-terminals.ensures.distinct c.resolve_states.new.states.items told.lanes alone met.number met.listed met.meet lalr
