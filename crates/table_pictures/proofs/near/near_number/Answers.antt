use Rattle.std.proofs.Common.{rules}
use Rattle.table_pictures.proofs.PathRounds.{near_flags}
use Rattle.table_pictures.proofs.near.near_number.Goals as goal

pub returns-clause-counted : goal.returns-clause-counted
returns-clause-counted c =
    (near_flags c.args.edges.now c.args.count c.args.number c.args.depth c.in_ok-ahead.ahead.items c.in_ok-back.back.items c.in_ok-near.near.items c.requires.number c.requires.below (search rules) (search rules) (search rules) (search rules)).0

pub returns-clause-exactly : goal.returns-clause-exactly
returns-clause-exactly c =
    (near_flags c.args.edges.now c.args.count c.args.number c.args.depth c.in_ok-ahead.ahead.items c.in_ok-back.back.items c.in_ok-near.near.items c.requires.number c.requires.below (search rules) (search rules) (search rules) (search rules)).1
