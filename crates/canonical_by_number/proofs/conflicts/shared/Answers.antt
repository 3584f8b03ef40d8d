use Rattle.std.proofs.Common.{Bool, ap, cond}
use Rattle.canonical_by_number.proofs.conflicts.shared.Goals as goal

pub returns-then-share-clause-shared : goal.returns-then-share-clause-shared
returns-then-share-clause-shared c = ap (λ (b : Bool). cond b 1 0) c.if-share.ensures

pub returns-clause-shared : goal.returns-clause-shared
returns-clause-shared c = ap (λ (b : Bool). cond b 1 0) c.if-share.ensures
