use Rattle.table_numbers.specs.Words.{lists_of}
use Rattle.table_numbers.proofs.ItemLemmas.{whole_numbers}
use Rattle.lr1_calls.specs.Checked.{faithful}
use Rattle.lr1_calls.proofs.check.verdict_on.Goals as goal

pub returns-then-branch : goal.returns-then-branch
returns-then-branch c = λ numbers are.
    faithful c.in_ok-shown.ensures
    (whole_numbers (lists_of c.args.grammar.now) numbers c.args.states.now c.args.start are (c.in_ok-are_tables.ensures.faithful c.if-branch.true))
