use Rattle.std.proofs.Common.{sym}
use Rattle.lalrpop_collections.proofs.theory.collections.JoinedEntries.{joined_fresh, joined_known, on_ok, where_ok}
use Rattle.lalrpop_collections.proofs.theory.lists.Updates.{exact_order, inserted, set_replaced, keys_differ}
use Rattle.lalrpop_states.proofs.collections.tokens.add_tokens.Goals as goal

pub returns-in-Some-clause-joined : goal.returns-in-Some-clause-joined
returns-in-Some-clause-joined g c =
    let exact = exact_order g.K.PartialEq.eq g.K.Ord.cmp g.met.K.Exact.exact g.met.K.Ord.matches_eq in
    let holds = c.get_mut.follows.holds c.join.new.into in
    where_ok c.join.result c.join.ensures.joined c.join.ensures.told (λ told joined is_told.
    joined_known g.L.Lookahead.meaning g.met.L.Lookahead.same_by_meaning told c.args.key c.args.tokens.now c.in-Some.known.now c.join.new.into c.args.map.now.entries _ joined is_told
    (rw holds.0 (set_replaced _ exact g.met.K.Ord.total c.args.key c.join.new.into c.in-Some.known.now c.args.map.now.entries (sym c.in-Some.ensures.value))))

pub returns-in-Some-clause-differ : goal.returns-in-Some-clause-differ
returns-in-Some-clause-differ g c = on_ok c.join.result (keys_differ g.K.Ord.cmp g.met.K.Ord.total _ (c.get_mut.follows.holds c.join.new.into).4)

pub returns-clause-joined : goal.returns-clause-joined
returns-clause-joined g c =
    let exact = exact_order g.K.PartialEq.eq g.K.Ord.cmp g.met.K.Exact.exact g.met.K.Ord.matches_eq in
    let put = rw c.get_mut.follows.holds-at-none at c.in_ok-insert.ensures.entries in
    let copied = rw c.in_ok-copy.ensures at put in
    joined_fresh g.L.Lookahead.meaning c.args.key c.args.tokens.now c.args.map.now.entries _
    (rw copied (inserted _ exact g.met.K.Ord.total c.args.key c.args.tokens.now c.args.map.now.entries (sym c.in_default.ensures.value)))

pub returns-clause-differ : goal.returns-clause-differ
returns-clause-differ g c = keys_differ g.K.Ord.cmp g.met.K.Ord.total _ c.in_ok-insert.ensures.ordered
