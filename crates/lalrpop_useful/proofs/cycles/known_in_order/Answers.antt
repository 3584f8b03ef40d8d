use Rattle.lalrpop_useful.proofs.theory.useful.KnownCycles.{nothing_known}
use Rattle.lalrpop_useful.proofs.cycles.known_in_order.Goals as goal

pub loop-name-init : goal.loop-name-init
loop-name-init c = nothing_known c.args.grammar.now c.new-known.result c.new-known.ensures.settled c.new-known.ensures.done c.new-known.ensures.cyclic c.new-known.ensures.ring
