use Rattle.std.proofs.Common.{subst}
use Rattle.lalrpop_lane_states.specs.Words.{AreUnited}
use Rattle.lalrpop_lane_states.proofs.theory.merges.Merges.{advances_on, walked_on, successor_own, successor_walked}
use Rattle.std.proofs.Common.{ap, ◌∙◌, List}
use Rattle.std.specs.Prelude.{slice_get}
use Rattle.lalrpop_base.specs.Words.{Bits}
use Rattle.lalrpop_lane_states.proofs.Types.{State}
use Rattle.lalrpop_lane_states.specs.declared.lane_table.construct.merge.Merge.{Merge}
use Rattle.lalrpop_lane_states.proofs.theory.merges.LinkedStates.{linked_copy, linked_itself}
use Rattle.lalrpop_lane_states.proofs.theory.merges.Merges.{walked_listed}
use Rattle.lalrpop_lane_states.proofs.lane_table.construct.merge.Merge.join_successor.Goals as goal

pub union-requires-clause-target : goal.union-requires-clause-target
union-requires-clause-target c = successor_walked c.args.self.now c.requires.ready c.args.state c.args.successor c.requires.walked c.requires.leads

pub returns-then-branch-clause-joined : goal.returns-then-branch-clause-joined
returns-then-branch-clause-joined c = record {
  original = c.union.ensures.advances.originals c.args.successor.0 c.args.successor.0 (successor_own c.args.self.now c.requires.ready c.args.state c.args.successor c.requires.walked c.requires.leads);
  together = subst (λ b. AreUnited b c.args.state c.args.successor c.args.self.now c.union.new.self) c.if-branch.true c.in_ok-union.ensures.united;
}

pub patch_links-requires-clause-walked : goal.patch_links-requires-clause-walked
patch_links-requires-clause-walked c =
    let all = advances_on c.args.self.now c.union.new.self c.some_copy.new.self c.union.ensures.advances c.some_copy.ensures.advances in
    walked_on c.args.self.now c.some_copy.new.self all c.args.state c.requires.walked

pub patch_links-requires-clause-own : goal.patch_links-requires-clause-own
patch_links-requires-clause-own c =
    let all = advances_on c.args.self.now c.union.new.self c.some_copy.new.self c.union.ensures.advances c.some_copy.ensures.advances in
    all.originals c.args.successor.0 c.args.successor.0 (successor_own c.args.self.now c.requires.ready c.args.state c.args.successor c.requires.walked c.requires.leads)

pub returns-clause-advances : goal.returns-clause-advances
returns-clause-advances c =
    let all = advances_on c.args.self.now c.union.new.self c.some_copy.new.self c.union.ensures.advances c.some_copy.ensures.advances in
    advances_on c.args.self.now c.some_copy.new.self c.patch_links.new.self all c.patch_links.ensures.advances

pub returns-then-branch-clause-linked : goal.returns-then-branch-clause-linked
returns-then-branch-clause-linked c =
    let old = c.args.self.now in
    linked_itself c.args.state.0 c.args.successor.0 old.states.items c.union.new.self.states.items (walked_listed old c.requires.ready c.args.state c.requires.walked) (ap (λ (m : Merge). m.states.items) c.union.ensures.same)

pub returns-clause-linked : goal.returns-clause-linked
returns-clause-linked c =
    let old = c.args.self.now in
    let same = ap (λ (m : Merge). m.states.items) c.union.ensures.same in
    linked_copy c.args.state.0 c.args.successor.0 c.in_ok-copy.copy.0 old.states.items c.some_copy.new.self.states.items c.patch_links.new.self.states.items (walked_listed old c.requires.ready c.args.state c.requires.walked)
    (λ k state at. c.some_copy.ensures.kept k state (ap (λ (xs : List (State Bits)). slice_get xs k) same ∙ at)) c.patch_links.ensures.relinked
