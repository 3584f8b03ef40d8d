use Rattle.std.proofs.Common.{arith}
use Rattle.lalrpop_collections.specs.lists.Bits.{bits_exact}
use Rattle.lalrpop_construction.proofs.theory.states.InsertedKernels.{inserted_differ, inserted_stands}
use Rattle.canonical_by_number.proofs.TokenSets.{inserted_few, inserted_kept}
use Rattle.canonical_by_number.proofs.token_sets.add_set.Goals as goal

pub returns-clause-number : goal.returns-clause-number
returns-clause-number c =
    let says = c.in_ok-number.ensures in
    inserted_stands _ bits_exact c.args.list.now.keys c.insert_full.new.self.keys c.args.set c.in_ok-number.number says.keys says.stored

pub returns-clause-kept : goal.returns-clause-kept
returns-clause-kept c = inserted_kept _ bits_exact c.args.list.now.keys c.insert_full.new.self.keys c.args.set c.in_ok-number.ensures.keys

pub returns-clause-differ : goal.returns-clause-differ
returns-clause-differ c =
    let says = c.in_ok-number.ensures in
    inserted_differ _ bits_exact c.args.list.now.keys c.insert_full.new.self.keys c.args.set c.in_ok-number.number says.keys says.stored c.requires.differ

pub returns-clause-few : goal.returns-clause-few
returns-clause-few c =
    let more = inserted_few _ bits_exact c.args.list.now.keys c.insert_full.new.self.keys c.args.set c.in_ok-number.ensures.keys in
    omega arith
