use Rattle.std.proofs.Common.{◌≡◌, ◌∙◌, List, length, map, refl, subst, sym}
use Rattle.std.proofs.lemmas.Bool.{false≢true}
use Rattle.std.proofs.lemmas.List.{length-map}
use Rattle.lalrpop_base.specs.Words.{IsClosureBy, ListsAll, item_at_start, items_by, kernels_by}
use Rattle.lalrpop_construction.specs.Words.{AreMadeSoFar}
use Rattle.lalrpop_construction.proofs.Types.{State}
use Rattle.lalrpop_construction.proofs.theory.conflicts.GrownConflicts.{Listed-more}
use Rattle.lalrpop_construction.proofs.theory.early_stop.MadeUntil.{nothing_listed, nothing_is_few, enough_for, Made-enough, Made-all}
use Rattle.lalrpop_construction.proofs.theory.construction.NumberedBuilding.{Fewer-left, last_added}
use Rattle.lalrpop_construction.proofs.construction.states.build_until_enough.Goals as goal

pub loop-work-init : goal.loop-work-init
loop-work-init g c =
    let k = c.args.lr.now.construction in
    record {
      made = subst (AreMadeSoFar g.L.Lookahead.meaning g.L.LookaheadBuild.begins g.L.LookaheadBuild.passes k c.args.numbers.now.items.items c.args.kernels.now) (sym c.requires.states) c.requires.kernels;
      listed = nothing_listed g.L.Lookahead.lists_conflicts k.rules.terminals _ _ c.requires.states c.requires.conflicts;
      few = nothing_is_few c.args.lr.now.stop_after _ c.requires.conflicts;
    }

pub returns-then-are_enough : goal.returns-then-are_enough
returns-then-are_enough g c =
    let k = c.args.lr.now.construction in
    let h = c.loop-work.invariant in
    let old : List (State g.row.L.Denot) = c.loop-work.states.items in
    let new : List (State g.row.L.Denot) = c.add_state.new.states.items in
    let state : State g.row.L.Denot = c.index.result.now in
    let (last, grown, at) = c.in_ok-add_state.ensures.more c.if-branch.true in
    let here = last_added old new last state c.len.result grown (c.len.ensures ∙ c.add_state.new.states.ok.0) c.index.ensures in
    let listed = Listed-more g.L.Lookahead.lists_conflicts k.rules.terminals old new state c.loop-work.conflicts.items c.push_conflicts.new.list.items h.listed c.in_ok-push_conflicts.ensures here in
    let counted : c.len-in-loop-work.result ≡ length c.push_conflicts.new.list.items = c.len-in-loop-work.ensures ∙ c.push_conflicts.new.list.ok.0 in
    let enough = enough_for c.stop_after.ensures counted (c.if-are_enough.ensures.0 refl) in
    Made-enough g.L.Lookahead.meaning (IsClosureBy g.L.Lookahead.meaning g.L.LookaheadBuild.begins g.L.LookaheadBuild.passes k.rules) g.L.Lookahead.lists_conflicts k.rules (map (item_at_start k.lookahead) k.first) c.args.lr.now.stop_after
    (kernels_by c.args.numbers.now.items.items c.add_state.new.kernels) old new state c.loop-work.conflicts.items c.push_conflicts.new.list.items c.in_ok-add_state.ensures.made.building here h.listed listed h.few enough

pub loop-work-smaller : goal.loop-work-smaller
loop-work-smaller g c =
    let made = c.in_ok-add_state.ensures in
    Fewer-left _ _ _ _ g.met.L.Lookahead.same_by_meaning (kernels_by c.args.numbers.now.items.items c.add_state.new.kernels) c.add_state.new.states.items made.made.building c.loop-work.kernels.handed (made.counted c.if-branch.true)

pub loop-work-preserved : goal.loop-work-preserved
loop-work-preserved g c =
    let old : List (State g.row.L.Denot) = c.loop-work.states.items in
    let new : List (State g.row.L.Denot) = c.add_state.new.states.items in
    let (last, grown, at) = c.in_ok-add_state.ensures.more c.if-branch.true in
    let here = last_added old new last c.index.result.now c.len.result grown (c.len.ensures ∙ c.add_state.new.states.ok.0) c.index.ensures in
    let counted : c.len-in-loop-work.result ≡ length c.push_conflicts.new.list.items = c.len-in-loop-work.ensures ∙ c.push_conflicts.new.list.ok.0 in
    record {
      made = c.in_ok-add_state.ensures.made;
      listed = Listed-more g.L.Lookahead.lists_conflicts c.args.lr.now.construction.rules.terminals old new c.index.result.now c.loop-work.conflicts.items c.push_conflicts.new.list.items c.loop-work.invariant.listed c.in_ok-push_conflicts.ensures here;
      few = λ enough. false≢true (c.if-are_enough.ensures.1 (enough_for (sym c.stop_after.ensures) (sym counted) enough));
    }

pub returns : goal.returns
returns g c =
    let items = c.args.numbers.now.items.items in
    let made = c.in_ok-add_state.ensures in
    let h = c.loop-work.invariant in
    let listed = subst (λ (states : List (State g.row.L.Denot)). ListsAll g.L.Lookahead.lists_conflicts c.args.lr.now.construction.rules.terminals states c.loop-work.conflicts.items) (sym (made.none c.if-branch.false)) h.listed in
    Made-all _ _ _ _ _ _ (kernels_by items c.add_state.new.kernels) c.add_state.new.states.items c.loop-work.conflicts.items made.made.building (made.all c.if-branch.false ∙ sym (length-map c.add_state.new.kernels.list (items_by items))) listed h.few
