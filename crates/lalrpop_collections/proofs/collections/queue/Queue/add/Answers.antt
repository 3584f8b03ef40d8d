use Rattle.std.proofs.Common.{◌≡◌, ◌∙◌, ◌<◌, false, true, rules, length, get_or, sym}
use Rattle.lalrpop_collections.proofs.theory.collections.Queues.{Marked-few, Marked-added, mark_read, with_new, with_waiting}
use Rattle.lalrpop_collections.proofs.collections.queue.Queue.add.Goals as goal

pub returns-then-index-clause-added : goal.returns-then-index-clause-added
returns-then-index-clause-added c =
    let within : c.args.number < length c.self.inside.marks.items = search rules in
    let marked : get_or c.self.inside.marks.items c.args.number false ≡ true = mark_read _ _ _ within c.index.ensures ∙ c.if-index.true in
    rw (← c.self.view_is) (sym (with_waiting _ _ _ c.self.invariant marked))

pub returns-then-index-clause-few : goal.returns-then-index-clause-few
returns-then-index-clause-few c = rw (← c.self.view_is) (Marked-few _ _ c.self.invariant)

pub returns-in_err-push_back-clause-few : goal.returns-in_err-push_back-clause-few
returns-in_err-push_back-clause-few c = rw c.in_err-push_back.ensures.items (Marked-few _ _ c.self.invariant)

pub invariant_of-self-2 : goal.invariant_of-self-2
invariant_of-self-2 c =
    let within : c.args.number < length c.self.inside.marks.items = search rules in
    let free : get_or c.self.inside.marks.items c.args.number false ≡ false = search rules in
    Marked-added _ _ _ _ c.in_ok-push_back.ensures.items c.self.invariant within free

pub returns-clause-added : goal.returns-clause-added
returns-clause-added c =
    let free : get_or c.self.inside.marks.items c.args.number false ≡ false = search rules in
    rw (← c.self.view_is) (c.in_ok-push_back.ensures.items ∙ sym (with_new _ _ _ c.self.invariant free))

pub returns-clause-few : goal.returns-clause-few
returns-clause-few c = Marked-few _ _ (invariant_of-self-2 c)
