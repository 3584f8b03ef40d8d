use Rattle.std.proofs.Common.{◌≡◌, length, arith}
use Rattle.lalrpop_state_graph.specs.Words.{index}
use Rattle.lalrpop_lane_states.proofs.theory.merges.Merges.{row_walked, walked_listed}
use Rattle.lalrpop_lane_states.proofs.theory.merges.NewCopies.{pushed_advance, pushed_fresh, pushed_marks, pushed_states, unmade_advance, unpushed_advance, unpushed_marks, unpushed_states}
use Rattle.lalrpop_collections.proofs.theory.lists.Places.{slice_get_at}
use Rattle.lalrpop_lane_states.proofs.lane_table.construct.merge.Merge.copy_state.Goals as goal

pub row_of-requires : goal.row_of-requires
row_of-requires c = c.requires.ready.apart c.args.state c.requires.row

pub index-requires : goal.index-requires
index-requires c =
    let old = c.args.self.now in
    let l = walked_listed old c.requires.ready c.args.state (row_walked old c.requires.ready c.args.state c.requires.row) in
    let k = old.states.ok.0 in
    omega arith

pub returns-in_err-new_state-clause-advances : goal.returns-in_err-new_state-clause-advances
returns-in_err-new_state-clause-advances c =
    let old = c.args.self.now in
    let numbered : c.len.result ≡ length old.states.items = let k = old.states.ok.0 in let l = c.len.ensures in omega arith in
    unmade_advance old c.requires.ready c.args.state (index c.len.result) c.in_ok-row.row c.new_state.new.self c.requires.row numbered c.in_ok-row.ensures.0 c.in_ok-row.ensures.1 c.new_state.ensures.adds c.in_err-new_state.ensures.err

pub returns-in_err-push_copy-clause-advances : goal.returns-in_err-push_copy-clause-advances
returns-in_err-push_copy-clause-advances c =
    let old = c.args.self.now in
    let numbered : c.len.result ≡ length old.states.items = let k = old.states.ok.0 in let l = c.len.ensures in omega arith in
    unpushed_advance old c.requires.ready c.args.state (index c.len.result) c.in_ok-row.row c.new_state.new.self c.requires.row numbered c.in_ok-row.ensures.0 c.in_ok-row.ensures.1 c.new_state.ensures.adds c.in_ok-new_state.ensures.made _ c.in_err-push_copy.ensures.err

pub returns-clause-advances : goal.returns-clause-advances
returns-clause-advances c =
    let old = c.args.self.now in
    let numbered : c.len.result ≡ length old.states.items = let k = old.states.ok.0 in let l = c.len.ensures in omega arith in
    let at = slice_get_at old.states.items c.args.state.0 c.index.result.now (walked_listed old c.requires.ready c.args.state (row_walked old c.requires.ready c.args.state c.requires.row)) c.index.ensures in
    let same = c.in_ok-copy.ensures.copy in
    pushed_advance old c.requires.ready c.args.state (index c.len.result) c.in_ok-row.row c.new_state.new.self c.requires.row numbered c.in_ok-row.ensures.0 c.in_ok-row.ensures.1 c.new_state.ensures.adds c.in_ok-new_state.ensures.made c.index.result.now _ at numbered same.items same.shifts same.reductions same.gotos _ c.in_ok-push_copy.ensures.pushed

pub returns-in_err-push_copy-clause-marks : goal.returns-in_err-push_copy-clause-marks
returns-in_err-push_copy-clause-marks c =
    let old = c.args.self.now in
    let numbered : c.len.result ≡ length old.states.items = let k = old.states.ok.0 in let l = c.len.ensures in omega arith in
    unpushed_marks old c.requires.ready c.args.state (index c.len.result) c.in_ok-row.row c.new_state.new.self c.requires.row numbered c.in_ok-row.ensures.0 c.in_ok-row.ensures.1 c.new_state.ensures.adds c.in_ok-new_state.ensures.made _ c.in_err-push_copy.ensures.err

pub returns-clause-marks : goal.returns-clause-marks
returns-clause-marks c =
    let old = c.args.self.now in
    let numbered : c.len.result ≡ length old.states.items = let k = old.states.ok.0 in let l = c.len.ensures in omega arith in
    let at = slice_get_at old.states.items c.args.state.0 c.index.result.now (walked_listed old c.requires.ready c.args.state (row_walked old c.requires.ready c.args.state c.requires.row)) c.index.ensures in
    let same = c.in_ok-copy.ensures.copy in
    pushed_marks old c.requires.ready c.args.state (index c.len.result) c.in_ok-row.row c.new_state.new.self c.requires.row numbered c.in_ok-row.ensures.0 c.in_ok-row.ensures.1 c.new_state.ensures.adds c.in_ok-new_state.ensures.made c.index.result.now _ at numbered same.items same.shifts same.reductions same.gotos _ c.in_ok-push_copy.ensures.pushed

pub returns-clause-copied : goal.returns-clause-copied
returns-clause-copied c =
    let old = c.args.self.now in
    let numbered : c.len.result ≡ length old.states.items = let k = old.states.ok.0 in let l = c.len.ensures in omega arith in
    let at = slice_get_at old.states.items c.args.state.0 c.index.result.now (walked_listed old c.requires.ready c.args.state (row_walked old c.requires.ready c.args.state c.requires.row)) c.index.ensures in
    let same = c.in_ok-copy.ensures.copy in
    pushed_fresh old c.requires.ready c.args.state (index c.len.result) c.in_ok-row.row c.new_state.new.self c.requires.row numbered c.in_ok-row.ensures.0 c.in_ok-row.ensures.1 c.new_state.ensures.adds c.in_ok-new_state.ensures.made c.index.result.now _ at numbered same.items same.shifts same.reductions same.gotos _ c.in_ok-push_copy.ensures.pushed

pub returns-in_err-push_copy-clause-kept : goal.returns-in_err-push_copy-clause-kept
returns-in_err-push_copy-clause-kept c =
    let old = c.args.self.now in
    let numbered : c.len.result ≡ length old.states.items = let k = old.states.ok.0 in let l = c.len.ensures in omega arith in
    unpushed_states old c.requires.ready c.args.state (index c.len.result) c.in_ok-row.row c.new_state.new.self c.requires.row numbered c.in_ok-row.ensures.0 c.in_ok-row.ensures.1 c.new_state.ensures.adds c.in_ok-new_state.ensures.made _ c.in_err-push_copy.ensures.err

pub returns-clause-kept : goal.returns-clause-kept
returns-clause-kept c =
    let old = c.args.self.now in
    let numbered : c.len.result ≡ length old.states.items = let k = old.states.ok.0 in let l = c.len.ensures in omega arith in
    let at = slice_get_at old.states.items c.args.state.0 c.index.result.now (walked_listed old c.requires.ready c.args.state (row_walked old c.requires.ready c.args.state c.requires.row)) c.index.ensures in
    let same = c.in_ok-copy.ensures.copy in
    pushed_states old c.requires.ready c.args.state (index c.len.result) c.in_ok-row.row c.new_state.new.self c.requires.row numbered c.in_ok-row.ensures.0 c.in_ok-row.ensures.1 c.new_state.ensures.adds c.in_ok-new_state.ensures.made c.index.result.now _ at numbered same.items same.shifts same.reductions same.gotos _ c.in_ok-push_copy.ensures.pushed
