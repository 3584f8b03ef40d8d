use Rattle.std.proofs.Common.{◌≡◌, length, arith}
use Rattle.lalrpop_lane_states.proofs.theory.merges.LaneCopies.{copies_own}
use Rattle.lalrpop_lane_states.proofs.theory.merges.Merges.{new_merging}
use Rattle.lalrpop_lane_states.proofs.lane_table.construct.merge.Merge.new.Goals as goal

pub returns-clause-ready : goal.returns-clause-ready
returns-clause-ready c =
    let k = c.args.states.ok.0 in
    let n = c.len-count.ensures in
    let counted : length c.in_ok-originals.originals.items ≡ length c.args.states.items = let l = c.in_ok-originals.ensures.counted in omega arith in
    let visited : length c.in_ok-visited.visited.items ≡ length c.args.states.items = let l = c.in_ok-visited.ensures.len in let m = c.in_ok-visited.visited.ok.0 in omega arith in
    new_merging _ c.args.rows.entries c.requires.coherent c.requires.closed c.requires.rows c.requires.each c.requires.start c.in_ok-context_sets.ensures counted (λ m l. c.in_ok-originals.ensures.own m (omega arith)) visited (omega arith)

pub returns-clause-copies : goal.returns-clause-copies
returns-clause-copies c =
    let k = c.args.states.ok.0 in
    let n = c.len-count.ensures in
    let counted : length c.in_ok-originals.originals.items ≡ length c.args.states.items = let l = c.in_ok-originals.ensures.counted in omega arith in
    copies_own c.in_ok-originals.originals.items c.args.states.items c.requires.coherent counted (λ m l. c.in_ok-originals.ensures.own m (omega arith))
