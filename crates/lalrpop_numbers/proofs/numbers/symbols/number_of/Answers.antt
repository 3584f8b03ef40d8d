use Rattle.lalrpop_collections.proofs.theory.lists.Halving.{halving_found, halving_none}
use Rattle.lalrpop_grammar.proofs.theory.grammars.NameOrders.{symbol_exact, symbol_order, symbol_total}
use Rattle.lalrpop_numbers.proofs.numbers.symbols.number_of.Goals as goal

pub returns-in-Ok : goal.returns-in-Ok
returns-in-Ok c = halving_found symbol_order symbol_exact symbol_total c.args.symbols.now c.requires c.args.symbol.now c.in-Ok.number c.in-Ok.ensures.bound c.in-Ok.ensures.ok

pub returns-in-Err : goal.returns-in-Err
returns-in-Err c = halving_none symbol_order symbol_exact symbol_total c.args.symbols.now c.requires c.args.symbol.now c.in-Err.field-0 c.in-Err.ensures.position
