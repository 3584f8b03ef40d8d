use Rattle.std.proofs.Common.{◌≡◌, ◌∙◌, ◌+◌, List, [], Some, false, refl, sym, ap, arith}
use Rattle.std.specs.Prelude.{slice_get}
use Rattle.std.proofs.lemmas.List.{append-nil}
use Rattle.lalrpop_lane_states.proofs.Types.{StateIndex}
use Rattle.lalrpop_lane_states.specs.Words.{unvisited}
use Rattle.lalrpop_collections.proofs.theory.lists.Members.{Contains-none}
use Rattle.lalrpop_lane_states.proofs.theory.merges.MergeWalks.{comes_newly, falls_newly, few}
use Rattle.lalrpop_lane_states.proofs.theory.merges.Merges.{mark_advance, mark_less, mark_listed, marked, on_ok}
use Rattle.lalrpop_collections.proofs.theory.lists.Places.{slice_get_at}
use Rattle.lalrpop_lane_states.proofs.lane_table.construct.merge.Merge.come_to.Goals as goal

pub returns-in-Some-clause-came : goal.returns-in-Some-clause-came
returns-in-Some-clause-came c =
    on_ok c.push_joins.result c.push_joins.ensures.pushed
    (comes_newly c.args.self.now c.requires.ready c.args.state c.requires.walked c.original_index-original.result.0 c.original_index-original.ensures c.in-Some.successors.now.keys c.in-Some.ensures.exactly c.args.pending.now.items c.push_joins.new.pending.items)

pub returns-in-Some-clause-fewer : goal.returns-in-Some-clause-fewer
returns-in-Some-clause-fewer c =
    let old = c.args.self.now in
    let unmarked : slice_get old.visited.items c.args.state.0 ≡ Some false = slice_get_at old.visited.items c.args.state.0 c.index.result.now (mark_listed old c.requires.ready c.args.state c.requires.walked) c.index.ensures ∙ ap Some c.if-index.false in
    let once : unvisited (marked old c.args.state) + 1 ≡ unvisited old = mark_less old c.args.state unmarked in
    omega (arith, once)

pub returns-in-Some-clause-falls : goal.returns-in-Some-clause-falls
returns-in-Some-clause-falls c =
    let old = c.args.self.now in
    let unmarked : slice_get old.visited.items c.args.state.0 ≡ Some false = slice_get_at old.visited.items c.args.state.0 c.index.result.now (mark_listed old c.requires.ready c.args.state c.requires.walked) c.index.ensures ∙ ap Some c.if-index.false in
    let less = few old c.requires.ready c.args.state c.requires.walked c.original_index-original.result.0 c.original_index-original.ensures c.in-Some.successors.now.keys c.in-Some.ensures.exactly c.push_joins.ensures.ordered in
    on_ok c.push_joins.result c.push_joins.ensures.pushed
    (falls_newly old c.requires.ready c.args.state c.requires.walked c.original_index-original.result.0 c.original_index-original.ensures c.in-Some.successors.now.keys c.in-Some.ensures.exactly unmarked less c.args.pending.now.items c.push_joins.new.pending.items)

pub returns-in-None-clause-advances : goal.returns-in-None-clause-advances
returns-in-None-clause-advances c = mark_advance c.args.self.now c.args.state c.requires.ready c.requires.walked

pub returns-in-None-clause-came : goal.returns-in-None-clause-came
returns-in-None-clause-came c =
    let none : List StateIndex = [] in
    comes_newly c.args.self.now c.requires.ready c.args.state c.requires.walked c.original_index-original.result.0 c.original_index-original.ensures none (λ right. (λ among. absurd (Contains-none right among), λ leads. absurd (c.in-None.ensures.none refl right leads)))
    c.args.pending.now.items c.args.pending.now.items (sym (append-nil c.args.pending.now.items))

pub returns-in-None-clause-fewer : goal.returns-in-None-clause-fewer
returns-in-None-clause-fewer c =
    let old = c.args.self.now in
    let unmarked : slice_get old.visited.items c.args.state.0 ≡ Some false = slice_get_at old.visited.items c.args.state.0 c.index.result.now (mark_listed old c.requires.ready c.args.state c.requires.walked) c.index.ensures ∙ ap Some c.if-index.false in
    let once : unvisited (marked old c.args.state) + 1 ≡ unvisited old = mark_less old c.args.state unmarked in
    omega (arith, once)

pub returns-in-None-clause-falls : goal.returns-in-None-clause-falls
returns-in-None-clause-falls c =
    let old = c.args.self.now in
    let unmarked : slice_get old.visited.items c.args.state.0 ≡ Some false = slice_get_at old.visited.items c.args.state.0 c.index.result.now (mark_listed old c.requires.ready c.args.state c.requires.walked) c.index.ensures ∙ ap Some c.if-index.false in
    let none : List StateIndex = [] in
    falls_newly old c.requires.ready c.args.state c.requires.walked c.original_index-original.result.0 c.original_index-original.ensures none (λ right. (λ among. absurd (Contains-none right among), λ leads. absurd (c.in-None.ensures.none refl right leads)))
    unmarked (omega arith) c.args.pending.now.items c.args.pending.now.items (sym (append-nil c.args.pending.now.items))
