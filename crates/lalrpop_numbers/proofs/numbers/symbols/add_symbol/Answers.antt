use Rattle.std.proofs.Common.{List, subst}
use Rattle.lalrpop_numbers.proofs.Types.{Symbol}
use Rattle.lalrpop_collections.specs.lists.CheckSets.{IsAdded}
use Rattle.lalrpop_numbers.proofs.theory.numbers.Numbering.{behind_new}
use Rattle.lalrpop_numbers.proofs.numbers.symbols.add_symbol.Goals as goal

pub returns : goal.returns
returns c =
    let old : List Symbol = c.args.symbols.now.keys in
    let new : List Symbol = c.add_key.new.set.keys in
    let added = subst (λ (s : Symbol). IsAdded s old new) c.in_ok-clone.ensures c.in_ok-add_key.ensures.added in
    behind_new c.args.item.now c.in-Some.symbol.now old new c.in-Some.ensures.next added
