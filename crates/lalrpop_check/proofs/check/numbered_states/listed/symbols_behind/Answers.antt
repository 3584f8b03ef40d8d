use Rattle.std.proofs.Common.{get_or}
use Rattle.std.proofs.lemmas.List.Elements.{Contains-get_or}
use Rattle.lalrpop_check.proofs.check.numbered_states.listed.symbols_behind.Goals as goal

pub add_symbol-requires : goal.add_symbol-requires
add_symbol-requires c = c.requires (get_or c.args.items.now c.loop-item.item-index 0) (Contains-get_or c.args.items.now c.loop-item.item-index 0 c.loop-item-test.true)
