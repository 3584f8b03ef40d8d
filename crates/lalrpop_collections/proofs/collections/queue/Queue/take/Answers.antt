use Rattle.std.proofs.Common.{◌≡◌, ◌<◌, ◌∷◌, length, rules}
use Rattle.lalrpop_collections.proofs.theory.collections.Queues.{Marked-taken, taken_within}
use Rattle.lalrpop_collections.proofs.collections.queue.Queue.take.Goals as goal

pub index_mut-requires : goal.index_mut-requires
index_mut-requires c =
    let first : c.self.inside.numbers.items ≡ c.in_ok-number.number ∷ c.pop_front.new.self.items = search rules in
    let within : c.in_ok-number.number < length c.self.inside.marks.items = taken_within _ _ _ _ first c.self.invariant in
    search rules

pub invariant_of-self-2 : goal.invariant_of-self-2
invariant_of-self-2 c =
    let first : c.self.inside.numbers.items ≡ c.in_ok-number.number ∷ c.pop_front.new.self.items = search rules in
    Marked-taken _ _ _ _ first c.self.invariant

pub returns-clause-within : goal.returns-clause-within
returns-clause-within c =
    let first : c.self.inside.numbers.items ≡ c.in_ok-number.number ∷ c.pop_front.new.self.items = search rules in
    rw (← c.self.view_is) (taken_within _ _ _ _ first c.self.invariant)
