use Rattle.std.proofs.Common.{◌≡◌, arith, length, rules}
use Rattle.table_pictures.proofs.PathRounds.{stopped}
use Rattle.table_pictures.proofs.rounds.flags_after.Goals as goal

pub returns-then-len-few-clause-flags : goal.returns-then-len-few-clause-flags
returns-then-len-few-clause-flags c =
    let same : length c.next_flags.new.crossed.items ≡ length c.loop.crossed.items = search rules in
    (stopped c.args.edges.now c.args.flags.items c.loop.flags.items c.in_ok-flags.flags.items c.args.crossed.now.items c.loop.crossed.items c.next_flags.new.crossed.items c.loop.counter c.args.rounds (omega arith) c.loop.invariant.flags (search rules) c.loop.invariant.crossed (search rules) same).0

pub returns-then-len-few-clause-crossed : goal.returns-then-len-few-clause-crossed
returns-then-len-few-clause-crossed c =
    let same : length c.next_flags.new.crossed.items ≡ length c.loop.crossed.items = search rules in
    (stopped c.args.edges.now c.args.flags.items c.loop.flags.items c.in_ok-flags.flags.items c.args.crossed.now.items c.loop.crossed.items c.next_flags.new.crossed.items c.loop.counter c.args.rounds (omega arith) c.loop.invariant.flags (search rules) c.loop.invariant.crossed (search rules) same).1
