use Rattle.std.proofs.Common.{◌<◌, ◌+◌, ◌*◌, length, sym, ◌∙◌, arith}
use Rattle.parse_calls.proofs.Found.{no_target, other_target}
use Rattle.parse_calls.proofs.lookups.target_in.Goals as goal

pub loop-k-preserved : goal.loop-k-preserved
loop-k-preserved c =
    let within : 2 * c.loop-k.k + 1 < length c.args.pairs.now = omega (arith, c.loop-k-test.true) in
    other_target c.args.name c.args.pairs.now c.loop-k.k within c.if-pairs-k.false ∙ c.loop-k.invariant

pub returns : goal.returns
returns c =
    let end : length c.args.pairs.now < 2 * c.loop-k.k + 2 = omega (arith, c.loop-k-test.false) in
    sym (no_target c.args.name c.args.pairs.now c.loop-k.k end) ∙ c.loop-k.invariant
