use Rattle.std.proofs.Common.{ℕ, List, get_or, arith}
use Rattle.std.proofs.lemmas.Option.{slice_get-get_or}
use Rattle.lalrpop_lane_states.proofs.theory.lane_states.CopiedNumbers.{alone_all, alone_more}
use Rattle.lalrpop_lane_states.proofs.lane_table.construct.copied_numbers.first_is_copied.Goals as goal

pub loop-number-init : goal.loop-number-init
loop-number-init c n l is = omega (arith, l)

pub loop-number-preserved : goal.loop-number-preserved
loop-number-preserved c =
    let originals : List ℕ = c.args.originals.now in
    let number = c.loop-number.number in
    alone_more originals number (get_or originals number 0) (slice_get-get_or originals number 0 c.loop-number-test.true) c.if-originals-number-eq0.false c.loop-number.invariant

pub returns : goal.returns
returns c e = alone_all c.args.originals.now c.loop-number.number c.loop-number-test.false c.loop-number.invariant
