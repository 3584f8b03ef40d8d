use Rattle.std.proofs.Common.{◌≡◌, List, [], ◌∷◌, ◌++◌, ◌+◌, sym, subst, ap, ◌∙◌, append-nil, append_assoc, map, take}
use Rattle.std.specs.Borrow.{Bor}
use Rattle.std.proofs.lemmas.List.{take_more, take_all, map-append}
use Rattle.lalrpop_base.specs.Words.{Bits}
use Rattle.lalrpop_lane_states.proofs.Types.{Action, Production}
use Rattle.lalrpop_lane_states.specs.Words.{AreActions, reduce_action}
use Rattle.lalrpop_lane_states.proofs.theory.lanes.LaneActions.{asked_same, one_action}
use Rattle.lalrpop_lane_states.proofs.lane_table.construct.actions.add_reductions.Goals as goal

pub loop-reduction-init : goal.loop-reduction-init
loop-reduction-init c asked h = asked_same asked (asked ++ []) _ (sym (append-nil asked)) h

pub loop-reduction-preserved : goal.loop-reduction-preserved
loop-reduction-preserved c asked h =
    let xs : List (Bits × Bor Production) = c.args.reductions.now in
    let i = c.loop-reduction.reduction-index in
    let x : Bits × Bor Production = c.reduction-item.result in
    let more : take (i + 1) xs ≡ take i xs ++ x ∷ [] = take_more xs i x c.loop-reduction-test.true ∙ ap (λ (y : Bits × Bor Production). take i xs ++ y ∷ []) (sym c.reduction-item.is) in
    let all : asked ++ map reduce_action (take i xs) ++ reduce_action x ∷ [] ≡ asked ++ map reduce_action (take (i + 1) xs) =
    append_assoc asked (map reduce_action (take i xs)) (reduce_action x ∷ []) ∙ ap (λ (zs : List Action). asked ++ zs) (sym (map-append reduce_action (take i xs) (x ∷ [])) ∙ ap (map reduce_action) (sym more)) in
    asked_same _ _ _ all (one_action (asked ++ map reduce_action (take i xs)) _ _ (reduce_action x) c.in_ok-insert.ensures.keys (c.loop-reduction.invariant asked h))

pub returns : goal.returns
returns c asked h =
    let xs : List (Bits × Bor Production) = c.args.reductions.now in
    subst (λ (ys : List (Bits × Bor Production)). AreActions (asked ++ map reduce_action ys) c.loop-reduction.actions.keys) (take_all c.loop-reduction.reduction-index xs c.loop-reduction-test.false) (c.loop-reduction.invariant asked h)
