use Rattle.std.proofs.Common.{true, false, length, ap, subst, Bor}
use Rattle.parse_tables.specs.declared.table.ParseTable.{ParseTable}
use Rattle.table_parser.specs.Expected.{MayFollow}
use Rattle.table_parser.proofs.Following.{copy_follows, copy_read, end_follows, parsed_follows, refused_in}
use Rattle.table_parser.proofs.machine.Machine.may_finish.Goals as goal

pub returns-in-Ok : goal.returns-in-Ok
returns-in-Ok c = λ w read.
    let m = c.args.self.now in
    let copy = c.in_ok-copy.copy in
    let k = c.in_ok-copy.ensures in
    let count = ap (λ (b : Bor ParseTable). length b.now.terminals) k.table in
    copy_follows m copy k w (length m.table.now.terminals) true (subst (λ n. MayFollow copy w n true) count
    (parsed_follows copy w (copy_read m copy k w read) _ _ _ c.finish.new.self c.in-Ok.ensures.parsed))

pub returns-in-Err-Refused : goal.returns-in-Err-Refused
returns-in-Err-Refused c = λ w read.
    let m = c.args.self.now in
    let copy = c.in_ok-copy.copy in
    let k = c.in_ok-copy.ensures in
    let count = ap (λ (b : Bor ParseTable). length b.now.terminals) k.table in
    copy_follows m copy k w (length m.table.now.terminals) false (subst (λ n. MayFollow copy w n false) count
    (end_follows copy w (copy_read m copy k w read) _ _ _ c.in-Err-Refused.field-0-0 (refused_in _ c.in-Err-Refused.field-0-is c.in-Err-Refused.ensures.refused)))
