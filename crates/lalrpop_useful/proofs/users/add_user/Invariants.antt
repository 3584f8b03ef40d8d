use Rattle.std.proofs.Common.{take}
use Rattle.lalrpop_useful.specs.Words.{AddsUser}
use Rattle.lalrpop_useful.proofs.users.add_user.Given as goal

abbrev pub invariant-loop-symbol : goal.invariant-loop-symbol
invariant-loop-symbol l = AddsUser l.user (take l.symbol-index l.symbols) l.fn.users l.users
