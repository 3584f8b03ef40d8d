use Rattle.parse_tables.proofs.Packed.{cells_owned, pushed_added, pushed_counted, pushed_kept, pushed_owned}
use Rattle.parse_tables.proofs.rows.Rows.add.Goals as goal

pub invariant_of-self-2 : goal.invariant_of-self-2
invariant_of-self-2 c =
    let s = c.args.self.now in
    record {
      owned = pushed_owned s.owners c.in_ok-owner.owner c.start_for-start.result c.in_ok-owner.ensures s.rows.items s.cells.items c.make_room.new.cells.items c.write_row.new.cells.items c.args.row.now c.args.columns.now s.owned s.held c.requires c.start_for-start.ensures c.in_ok-make_room.ensures.kept c.write_row.ensures c.in_ok-first.first c.push.new.self.items c.in_ok-first.ensures c.in_ok-push.ensures.items;
      held = cells_owned s.owners c.in_ok-owner.owner c.start_for-start.result c.in_ok-owner.ensures s.rows.items s.cells.items c.make_room.new.cells.items c.write_row.new.cells.items c.args.row.now c.args.columns.now s.owned s.held c.requires c.start_for-start.ensures c.in_ok-make_room.ensures.kept c.write_row.ensures;
    }

pub returns : goal.returns
returns c =
    let s = c.args.self.now in
    record {
      counted = pushed_counted s.owners c.in_ok-owner.owner c.start_for-start.result c.in_ok-owner.ensures s.rows.items s.cells.items c.make_room.new.cells.items c.write_row.new.cells.items c.args.row.now c.args.columns.now s.owned s.held c.requires c.start_for-start.ensures c.in_ok-make_room.ensures.kept c.write_row.ensures c.in_ok-first.first c.push.new.self.items c.in_ok-first.ensures c.in_ok-push.ensures.items;
      kept = pushed_kept s.owners c.in_ok-owner.owner c.start_for-start.result c.in_ok-owner.ensures s.rows.items s.cells.items c.make_room.new.cells.items c.write_row.new.cells.items c.args.row.now c.args.columns.now s.owned s.held c.requires c.start_for-start.ensures c.in_ok-make_room.ensures.kept c.write_row.ensures c.in_ok-first.first c.push.new.self.items c.in_ok-first.ensures c.in_ok-push.ensures.items;
      added = λ column within. pushed_added s.owners c.in_ok-owner.owner c.start_for-start.result c.in_ok-owner.ensures s.rows.items s.cells.items c.make_room.new.cells.items c.write_row.new.cells.items c.args.row.now c.args.columns.now s.owned s.held c.requires c.start_for-start.ensures c.in_ok-make_room.ensures.kept c.write_row.ensures c.in_ok-first.first c.push.new.self.items c.in_ok-first.ensures c.in_ok-push.ensures.items column;
    }
