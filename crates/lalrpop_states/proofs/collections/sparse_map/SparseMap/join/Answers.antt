use Rattle.std.proofs.Common.{◌≡◌, ◌≢◌, set}
use Rattle.std.specs.Prelude.{MatchBool}
use Rattle.std.proofs.lemmas.Result.{on_ok_weaker}
use Rattle.lalrpop_collections.proofs.theory.collections.JoinedEntries.{joined_fresh, joined_known, where_ok}
use Rattle.lalrpop_collections.proofs.theory.lists.Updates.{IsReplaced}
use Rattle.lalrpop_collections.proofs.theory.collections.SparseMaps.{changed_replaced, changed_differ, pushed_inserted}
use Rattle.lalrpop_states.proofs.collections.sparse_map.SparseMap.join.Goals as goal

pub returns-in-Some-clause-joined : goal.returns-in-Some-clause-joined
returns-in-Some-clause-joined g c =
    let es = c.self.inside.entries.items in
    let found = rw (← c.self.view_is) at c.in-Some.ensures.found in
    let replaced : IsReplaced c.args.number c.index_mut.result.now.1 c.join_own.new.into c.args.self.now (set es c.in-Some.place (c.index_mut.result.now.0, c.join_own.new.into)) =
    rw (← c.self.view_is) (changed_replaced es c.in-Some.place c.args.number found.0 c.join_own.new.into c.index_mut.result.now found.1 c.index_mut.ensures.value) in
    where_ok {B = λ told. MatchBool told (c.join_own.new.into ≢ c.index_mut.result.now.1) (c.join_own.new.into ≡ c.index_mut.result.now.1)} c.join_own.result c.join_own.ensures.joined c.join_own.ensures.told (λ told joined is_told.
    joined_known g.L.Lookahead.meaning g.met.L.Lookahead.same_by_meaning told c.args.number c.args.tokens c.index_mut.result.now.1 c.join_own.new.into c.args.self.now _ joined is_told replaced)

pub returns-in-Some-clause-differ : goal.returns-in-Some-clause-differ
returns-in-Some-clause-differ g c =
    let es = c.self.inside.entries.items in
    let found = rw (← c.self.view_is) at c.in-Some.ensures.found in
    on_ok_weaker c.join_own.result (λ _. changed_differ c.self.inside.places.items es c.self.invariant c.in-Some.place c.args.number found.0 c.join_own.new.into c.index_mut.result.now found.1 c.index_mut.ensures.value) c.join_own.ensures.joined

pub returns-clause-joined : goal.returns-clause-joined
returns-clause-joined g c =
    joined_fresh g.L.Lookahead.meaning c.args.number c.args.tokens c.args.self.now c.push.new.self (pushed_inserted c.args.self.now c.push.new.self c.args.number c.args.tokens c.in_ok-push.ensures.pushed)
