use Rattle.std.proofs.Common.{◌≡◌, take}
use Rattle.lrshow_run.proofs.tree.copies.Given as goal

abbrev pub invariant-loop-token : goal.invariant-loop-token
invariant-loop-token l = l.list.items ≡ take l.token-index l.tokens
