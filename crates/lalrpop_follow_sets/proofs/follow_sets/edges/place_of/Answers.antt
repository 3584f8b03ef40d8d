use Rattle.std.proofs.Common.{ℕ, ◌+◌, ◌-◌, ◌/◌, arith}
use Rattle.lalrpop_follow_sets.proofs.theory.states.EdgePlaces.{none_behind, none_between, read_found, rises_from, rises_to}
use Rattle.lalrpop_follow_sets.proofs.follow_sets.edges.place_of.Goals as goal
use Rattle.lalrpop_follow_sets.proofs.follow_sets.edges.place_of.Goals.{else-low-edges-via-then-low-edges+else-edges-low, else-low-edges-via-else-low-edges}

pub loop-low-preserved-then-edges-middle : goal.loop-low-preserved-then-edges-middle
loop-low-preserved-then-edges-middle c =
    let i = c.loop-low.invariant in
    let middle : ℕ = c.loop-low.low + (c.loop-low.high - c.loop-low.low) / 2 in
    record {
      within = omega arith;
      meet = omega arith;
      below = λ k x m l at. let up = rises_to c.args.edges.now c.requires middle (omega arith) k x m l at in omega arith;
      above = i.above;
    }

pub loop-low-preserved : goal.loop-low-preserved
loop-low-preserved c =
    let i = c.loop-low.invariant in
    let middle : ℕ = c.loop-low.low + (c.loop-low.high - c.loop-low.low) / 2 in
    record {
      within = omega arith;
      meet = omega arith;
      below = i.below;
      above = λ k x m l at. let up = rises_from c.args.edges.now c.requires middle (omega arith) k x m l at in omega arith;
    }

pub returns-then-edges-low-clause-found : goal.returns-then-edges-low-clause-found
returns-then-edges-low-clause-found c = read_found c.args.edges.now c.requires c.loop-low.low (omega arith) c.args.symbol (omega arith)

pub returns-else-low-edges-clause-none : goal.returns-else-low-edges-clause-none
returns-else-low-edges-clause-none c = λ e target.
    let i = c.loop-low.invariant in
    elim c.else-low-edges.branch [
      | else-low-edges-via-then-low-edges+else-edges-low w ↦ none_between c.args.edges.now c.loop-low.low c.args.symbol i.below c.requires w.if-low-edges.true (λ k x m l at. i.above k x m (omega arith) at) (λ same. absurd (omega arith)) target
      | else-low-edges-via-else-low-edges w ↦ none_behind c.args.edges.now c.loop-low.low c.args.symbol i.below (omega arith) target
    ]
