use Rattle.std.proofs.Common.{refl}
use Rattle.std.proofs.lemmas.Result.{err_from_is_err_and}
use Rattle.lalrpop_lanes.specs.declared.lane_table.table.LaneTable.{LaneTable}
use Rattle.lalrpop_lanes.proofs.theory.lane_tables.LaneTables.{same_tables, adds_tokens, in_range_of, still_below}
use Rattle.lalrpop_lanes.proofs.lane_table.table.LaneTable.add_lookahead.Goals as goal

pub invariant_of-self : goal.invariant_of-self
invariant_of-self c = record { in_range = still_below c.args.self.now.conflicts (c.args.state, c.args.conflict) c.args.tokens.now c.args.self.now.lookaheads.entries c.join_at.new.cells.entries c.join_at.result c.join_at.ensures.joined c.join_at.ensures.err c.requires.there c.args.self.now.in_range }

pub returns-in_err-join_at-clause-in_range : goal.returns-in_err-join_at-clause-in_range
returns-in_err-join_at-clause-in_range c =
    let old = c.args.self.now in
    let new : LaneTable = record { grammar = old.grammar; conflicts = old.conflicts; lookaheads = c.join_at.new.cells; successors = old.successors; alloc = old.alloc; in_range = still_below c.args.self.now.conflicts (c.args.state, c.args.conflict) c.args.tokens.now c.args.self.now.lookaheads.entries c.join_at.new.cells.entries c.join_at.result c.join_at.ensures.joined c.join_at.ensures.err c.requires.there c.args.self.now.in_range } in
    λ was. in_range_of new

pub returns-in_err-join_at-clause-err : goal.returns-in_err-join_at-clause-err
returns-in_err-join_at-clause-err c =
    let p = err_from_is_err_and c.from_residual.result c.from_residual.ensures.1 in
    rw p.1 (same_tables _ _ refl c.in_err-join_at.ensures.err refl)

pub returns-clause-added : goal.returns-clause-added
returns-clause-added c = adds_tokens c.args.state c.args.conflict.index c.args.tokens.now c.in_ok-join_at.field-0 _ _ refl refl c.in_ok-join_at.ensures.joined

pub returns-clause-in_range : goal.returns-clause-in_range
returns-clause-in_range c =
    let old = c.args.self.now in
    let new : LaneTable = record { grammar = old.grammar; conflicts = old.conflicts; lookaheads = c.join_at.new.cells; successors = old.successors; alloc = old.alloc; in_range = still_below c.args.self.now.conflicts (c.args.state, c.args.conflict) c.args.tokens.now c.args.self.now.lookaheads.entries c.join_at.new.cells.entries c.join_at.result c.join_at.ensures.joined c.join_at.ensures.err c.requires.there c.args.self.now.in_range } in
    λ was. in_range_of new
