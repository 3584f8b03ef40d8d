use Rattle.lalrpop_lane_states.proofs.theory.merges.Merges.{advances_on, walked_on}
use Rattle.lalrpop_lane_states.proofs.theory.merges.CopySearch.{none_apart, refused_by}
use Rattle.lalrpop_lane_states.proofs.theory.merges.LinkedStates.{kept_on, kept_same}
use Rattle.std.proofs.Common.{ap}
use Rattle.lalrpop_lane_states.specs.declared.lane_table.construct.merge.Merge.{Merge}
use Rattle.lalrpop_lane_states.proofs.lane_table.construct.merge.Merge.some_copy.Goals as goal

pub new_copy-requires-clause-walked : goal.new_copy-requires-clause-walked
new_copy-requires-clause-walked c = walked_on c.args.self.now c.existing_copy.new.self c.existing_copy.ensures.advances c.args.state c.requires.walked

pub returns-in-None-clause-advances : goal.returns-in-None-clause-advances
returns-in-None-clause-advances c = advances_on c.args.self.now c.existing_copy.new.self c.new_copy.new.self c.existing_copy.ensures.advances c.new_copy.ensures.advances

pub returns-in_err-copy-clause-kept : goal.returns-in_err-copy-clause-kept
returns-in_err-copy-clause-kept c = kept_same c.args.self.now c.existing_copy.new.self (ap (λ (m : Merge). m.states) c.existing_copy.ensures.same)

pub returns-in-Some-clause-kept : goal.returns-in-Some-clause-kept
returns-in-Some-clause-kept c = kept_same c.args.self.now c.existing_copy.new.self (ap (λ (m : Merge). m.states) c.existing_copy.ensures.same)

pub returns-in-None-clause-kept : goal.returns-in-None-clause-kept
returns-in-None-clause-kept c = kept_on c.args.self.now c.existing_copy.new.self c.new_copy.new.self (kept_same c.args.self.now c.existing_copy.new.self (ap (λ (m : Merge). m.states) c.existing_copy.ensures.same)) c.new_copy.ensures.kept

pub returns-in-None-clause-refused : goal.returns-in-None-clause-refused
returns-in-None-clause-refused c = refused_by c.new_copy.result c.args.self.now c.args.state c.args.successor (none_apart _ c.args.state c.args.successor c.args.self.now c.existing_copy.new.self c.in-None.is c.in_ok-copy.ensures.apart)
