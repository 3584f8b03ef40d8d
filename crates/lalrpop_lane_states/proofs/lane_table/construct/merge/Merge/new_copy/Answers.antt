use Rattle.std.proofs.Common.{◌∙◌, ap, sym, subst, false}
use Rattle.std.specs.Prelude.{slice_get}
use Rattle.std.proofs.lemmas.Option.{slice_get_within}
use Rattle.lalrpop_lane_states.specs.Words.{IsApart, AreUnited}
use Rattle.lalrpop_lane_states.specs.declared.lane_table.construct.merge.Merge.{Merge}
use Rattle.lalrpop_lane_states.proofs.theory.merges.Merges.{advances_on, row_on, walked_on, leads_on, copy_walked, successor_row, apart_copy}
use Rattle.lalrpop_lane_states.proofs.theory.merges.LinkedStates.{kept_on, kept_same}
use Rattle.lalrpop_lane_states.proofs.lane_table.construct.merge.Merge.new_copy.Goals as goal

pub copy_state-requires-clause-row : goal.copy_state-requires-clause-row
copy_state-requires-clause-row c = successor_row c.args.self.now c.requires.ready c.args.state c.args.successor c.requires.walked c.requires.leads

pub union-requires-clause-source : goal.union-requires-clause-source
union-requires-clause-source c = walked_on c.args.self.now c.copy_state.new.self c.copy_state.ensures.advances c.args.state c.requires.walked

pub union-requires-clause-target : goal.union-requires-clause-target
union-requires-clause-target c =
    let row = successor_row c.args.self.now c.requires.ready c.args.state c.args.successor c.requires.walked c.requires.leads in
    copy_walked c.copy_state.new.self c.args.successor c.in_ok-copy.copy (row_on c.args.self.now c.copy_state.new.self c.copy_state.ensures.advances c.args.successor row) c.in_ok-copy.ensures.copied.original

pub returns-in_err-union-clause-advances : goal.returns-in_err-union-clause-advances
returns-in_err-union-clause-advances c = advances_on c.args.self.now c.copy_state.new.self c.union.new.self c.copy_state.ensures.advances c.union.ensures.advances

pub original_index-requires : goal.original_index-requires
original_index-requires c =
    let all = advances_on c.args.self.now c.copy_state.new.self c.union.new.self c.copy_state.ensures.advances c.union.ensures.advances in
    let w = walked_on c.args.self.now c.union.new.self all c.args.state c.requires.walked in
    slice_get_within c.union.new.self.originals.items c.args.state.0 w.original w.there

pub returns-then-not-branch-clause-error : goal.returns-then-not-branch-clause-error
returns-then-not-branch-clause-error c =
    let old = c.args.self.now in
    let mid = c.copy_state.new.self in
    let w = walked_on old mid c.copy_state.ensures.advances c.args.state c.requires.walked in
    let leads = leads_on old mid c.copy_state.ensures.advances c.args.state c.args.successor c.requires.walked c.requires.leads in
    let told : AreUnited false c.args.state c.in_ok-copy.copy mid c.union.new.self = subst (λ b. AreUnited b c.args.state c.in_ok-copy.copy mid c.union.new.self) c.if-not-branch.true c.in_ok-union.ensures.united in
    subst (λ (m : Merge). IsApart m.table.now c.original_index.result c.args.successor) (sym told.2)
    (apart_copy mid c.copy_state.ensures.advances.ready c.args.state c.in_ok-copy.copy c.args.successor c.original_index.result.0 w (ap (λ (m : Merge). slice_get m.originals.items c.args.state.0) (sym told.2) ∙ c.original_index.ensures) leads c.in_ok-copy.ensures.copied.row told.0)

pub returns-clause-advances : goal.returns-clause-advances
returns-clause-advances c = advances_on c.args.self.now c.copy_state.new.self c.union.new.self c.copy_state.ensures.advances c.union.ensures.advances

pub returns-in_err-union-clause-kept : goal.returns-in_err-union-clause-kept
returns-in_err-union-clause-kept c = kept_on c.args.self.now c.copy_state.new.self c.union.new.self c.copy_state.ensures.kept (kept_same c.copy_state.new.self c.union.new.self (ap (λ (m : Merge). m.states) c.union.ensures.same))

pub returns-then-not-branch-clause-kept : goal.returns-then-not-branch-clause-kept
returns-then-not-branch-clause-kept c = kept_on c.args.self.now c.copy_state.new.self c.union.new.self c.copy_state.ensures.kept (kept_same c.copy_state.new.self c.union.new.self (ap (λ (m : Merge). m.states) c.union.ensures.same))

pub returns-clause-kept : goal.returns-clause-kept
returns-clause-kept c = kept_on c.args.self.now c.copy_state.new.self c.union.new.self c.copy_state.ensures.kept (kept_same c.copy_state.new.self c.union.new.self (ap (λ (m : Merge). m.states) c.union.ensures.same))
