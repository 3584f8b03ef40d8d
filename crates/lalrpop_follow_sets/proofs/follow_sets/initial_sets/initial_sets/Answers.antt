use Rattle.std.proofs.Common.{◌≡◌, arith, length}
use Rattle.lalrpop_follow_sets.proofs.theory.follow_sets.InitialSets.{initial_is}
use Rattle.lalrpop_follow_sets.proofs.follow_sets.initial_sets.initial_sets.Goals as goal

pub returns : goal.returns
returns c =
    let pass = c.args.pass.now in
    let whole : c.len.result ≡ length pass.nodes.now.pairs.items = omega (arith, c.len.ensures, pass.nodes.now.pairs.ok) in
    initial_is pass c.requires.pass c.len.result whole c.in_ok-sets.sets.items c.join_all.new.sets.items c.add_ends.new.sets.items c.in_ok-sets.ensures c.in_ok-join_all.ensures c.in_ok-add_ends.ensures
