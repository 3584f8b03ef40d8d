use Rattle.std.proofs.Common.{refl}
use Rattle.lalrpop_collections.proofs.theory.collections.Walks.{Visits-new, Visits-known}
use Rattle.lalrpop_collections.proofs.collections.walk.Walk.visit.Goals as goal

pub returns-in_ok-push_back : goal.returns-in_ok-push_back
returns-in_ok-push_back g c =
    let told = rw c.if-branch.true at c.in_ok-add_key.ensures.told in
    Visits-new c.args.key c.args.self.now _ (rw c.requires at c.in_ok-add_key.ensures.added) c.in_ok-add_key.ensures.differ told.0 c.in_ok-push_back.ensures.items

pub returns-else-branch : goal.returns-else-branch
returns-else-branch g c =
    let told = rw c.if-branch.false at c.in_ok-add_key.ensures.told in
    Visits-known c.args.key c.args.self.now _ (rw c.requires at c.in_ok-add_key.ensures.added) c.in_ok-add_key.ensures.differ (rw c.requires at told.1) told.0 refl
