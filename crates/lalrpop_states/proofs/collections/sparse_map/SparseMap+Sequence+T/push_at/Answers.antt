use Rattle.std.proofs.Common.{◌≡◌, ◌∙◌, ◌++◌, ◌∷◌, [], ap, set}
use Rattle.std.proofs.lemmas.Result.{on_ok_weaker}
use Rattle.lalrpop_collections.proofs.theory.lists.Updates.{IsReplaced, pushed_fresh, pushed_known}
use Rattle.lalrpop_collections.proofs.theory.collections.SparseMaps.{changed_replaced, changed_differ, pushed_inserted}
use Rattle.lalrpop_states.proofs.collections.sparse_map.SparseMap+Sequence+T.push_at.Goals as goal

pub returns-in-Some-clause-pushed : goal.returns-in-Some-clause-pushed
returns-in-Some-clause-pushed g c =
    let es = c.self.inside.entries.items in
    let found = rw (← c.self.view_is) at c.in-Some.ensures.found in
    let replaced : IsReplaced c.args.number c.index_mut.result.now.1 c.push.new.self c.args.self.now (set es c.in-Some.place (c.index_mut.result.now.0, c.push.new.self)) =
    rw (← c.self.view_is) (changed_replaced es c.in-Some.place c.args.number found.0 c.push.new.self c.index_mut.result.now found.1 c.index_mut.ensures.value) in
    pushed_known c.args.number c.args.item c.index_mut.result.now.1 c.push.new.self c.args.self.now _ c.in_ok-push.ensures.ok replaced

pub returns-in-Some-clause-differ : goal.returns-in-Some-clause-differ
returns-in-Some-clause-differ g c =
    let es = c.self.inside.entries.items in
    let found = rw (← c.self.view_is) at c.in-Some.ensures.found in
    changed_differ c.self.inside.places.items es c.self.invariant c.in-Some.place c.args.number found.0 c.push.new.self c.index_mut.result.now found.1 c.index_mut.ensures.value

pub returns-clause-pushed : goal.returns-clause-pushed
returns-clause-pushed g c =
    let one : c.push-2.new.self ≡ c.args.item ∷ [] = c.in_ok-push-2.ensures.ok ∙ ap (λ xs. xs ++ c.args.item ∷ []) c.in_ok-items.ensures in
    on_ok_weaker c.push-3.result (λ pushed. pushed_fresh c.args.number c.args.item c.push-2.new.self c.args.self.now c.push-3.new.self one (pushed_inserted c.args.self.now c.push-3.new.self c.args.number c.push-2.new.self pushed)) c.push-3.ensures.pushed
