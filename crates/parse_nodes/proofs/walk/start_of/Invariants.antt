use Rattle.std.proofs.Common.{◌≡◌, length}
use Rattle.parse_nodes.specs.Building.{start_of}
use Rattle.parse_nodes.proofs.walk.start_of.Given as goal

abbrev pub invariant-loop : goal.invariant-loop
invariant-loop l = l.place ≡ start_of l.nodes l.counter (length l.nodes)
