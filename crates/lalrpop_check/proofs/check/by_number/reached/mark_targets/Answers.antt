use Rattle.std.proofs.Common.{◌≡◌, ◌+◌, ◌++◌, ◌∷◌, [], ℕ, List, get_or, subst, sym, take}
use Rattle.std.proofs.lemmas.List.{take_all, take_more}
use Rattle.lalrpop_check.specs.check.ByNumber.{MarksTargets}
use Rattle.lalrpop_check.proofs.theory.check.NumberedSteps.{Targets-more, Targets-none}
use Rattle.lalrpop_check.proofs.check.by_number.reached.mark_targets.Goals as goal

pub loop-edge-init : goal.loop-edge-init
loop-edge-init c = Targets-none c.args.marks.now.items c.args.found.now.items

pub loop-edge-preserved : goal.loop-edge-preserved
loop-edge-preserved c =
    let edges : List (ℕ × ℕ) = c.args.edges.now in
    let k = c.loop-edge.edge-index in
    let edge : ℕ × ℕ = get_or edges k (0, 0) in
    let more : take (k + 1) edges ≡ take k edges ++ edge ∷ [] = take_more edges k (0, 0) c.loop-edge-test.true in
    subst (λ (done : List (ℕ × ℕ)). MarksTargets done c.args.marks.now.items c.args.found.now.items c.mark_target.new.marks.items c.mark_target.new.found.items) (sym more)
    (Targets-more (take k edges) edge c.args.marks.now.items c.loop-edge.marks.items c.mark_target.new.marks.items c.args.found.now.items c.loop-edge.found.items c.mark_target.new.found.items c.loop-edge.invariant c.in_ok-mark_target.ensures)

pub returns : goal.returns
returns c = subst (λ (done : List (ℕ × ℕ)). MarksTargets done c.args.marks.now.items c.args.found.now.items c.loop-edge.marks.items c.loop-edge.found.items) (take_all c.loop-edge.edge-index c.args.edges.now c.loop-edge-test.false) c.loop-edge.invariant
