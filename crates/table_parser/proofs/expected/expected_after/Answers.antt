use Rattle.std.proofs.Common.{ℕ, List, [], take, get_or, length, refl, sym, subst}
use Rattle.std.specs.declared.convert.Infallible.{Infallible}
use Rattle.table_parser.proofs.Following.{HasReadBits, expected_from, fresh_read, more_bits}
use Rattle.table_parser.proofs.Reports.{both_ok, read_within}
use Rattle.table_parser.proofs.Stacks.{take_whole, with_entry}
use Rattle.table_parser.proofs.expected.expected_after.Goals as goal

pub loop-bit-init : goal.loop-bit-init
loop-bit-init c = record {
  same = c.new-machine.ensures.table;
  list = [];
  named = refl;
  read = fresh_read c.new-machine.result c.args.limit c.new-machine.ensures.fresh;
}

pub loop-bit-preserved : goal.loop-bit-preserved
loop-bit-preserved c =
    let m = c.loop-bit.machine in
    let read = c.args.read.now in
    let says = c.in_ok-shift.ensures in
    let bit = get_or read c.loop-bit.bit-index 0 in
    let within = read_within Infallible bit (length m.table.now.terminals) m.position c.in_ok-shift.field-0 says.unknown in
    subst (λ (bits : List ℕ). HasReadBits c.args.table.now bits c.shift.new.self) (sym (with_entry read c.loop-bit.bit-index 0 c.loop-bit-test.true))
    (more_bits _ c.args.table.now (take c.loop-bit.bit-index read) m _ _ c.shift.new.self bit within says.table c.loop-bit.invariant says.read)

pub returns : goal.returns
returns c =
    let whole = take_whole c.args.read.now c.loop-bit.bit-index c.loop-bit-test.false in
    let read = subst (λ (bits : List ℕ). HasReadBits c.args.table.now bits c.loop-bit.machine) whole c.loop-bit.invariant in
    both_ok (λ tokens exact within. expected_from c.args.table.now c.args.read.now c.loop-bit.machine tokens read exact within) c.expected.result c.expected.ensures.exact c.expected.ensures.within
