use Rattle.std.proofs.Common.{true, false, ◌<◌, length, ap, sym, subst, ◌∙◌, Bor}
use Rattle.lalrpop_base.specs.Words.{IsBitOf, action_on, next_token}
use Rattle.parse_tables.specs.declared.table.ParseTable.{ParseTable}
use Rattle.table_parser.proofs.Following.{copy_follows, copy_read, read_follows, refused_follows, refused_in, stands_follows}
use Rattle.table_parser.proofs.Moves.{none_stands}
use Rattle.table_parser.proofs.Reducing.{stands_next}
use Rattle.table_parser.proofs.machine.Machine.may_shift.Goals as goal

pub returns-in-None : goal.returns-in-None
returns-in-None c = λ within w read.
    let m = c.args.self.now in
    stands_follows m w read c.args.bit within (λ states d t is at there next.
    let has : IsBitOf m.table.now.terminals (next_token d.rest) c.args.bit = subst (λ rest. IsBitOf m.table.now.terminals (next_token rest) c.args.bit) (sym next) there in
    none_stands states d d.rest (sym (c.in-None.ensures states is (next_token d.rest) (stands_next d.rest) has ∙ ap (λ n. action_on (states n) (next_token d.rest)) at.state)))

pub returns-in-Ok : goal.returns-in-Ok
returns-in-Ok c = λ within w read.
    let m = c.args.self.now in
    let copy = c.in_ok-copy.copy in
    let k = c.in_ok-copy.ensures in
    let few = subst (λ (b : Bor ParseTable). c.args.bit < length b.now.terminals) (sym k.table) within in
    copy_follows m copy k w c.args.bit true (read_follows copy w (copy_read m copy k w read) c.args.bit few _ _ _ c.shift.new.self c.in-Ok.ensures.read)

pub returns-in-Err-Refused : goal.returns-in-Err-Refused
returns-in-Err-Refused c = λ within w read.
    let m = c.args.self.now in
    let copy = c.in_ok-copy.copy in
    let k = c.in_ok-copy.ensures in
    let few = subst (λ (b : Bor ParseTable). c.args.bit < length b.now.terminals) (sym k.table) within in
    copy_follows m copy k w c.args.bit false (refused_follows copy w (copy_read m copy k w read) c.args.bit few _ _ _ c.in-Err-Refused.field-0-0 (refused_in _ c.in-Err-Refused.field-0-is c.in-Err-Refused.ensures.refused))
