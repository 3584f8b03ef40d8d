use Rattle.std.proofs.Common.{◌==◌, not, refl}
use Rattle.lalrpop_collections.proofs.theory.collections.SparseMaps.{changed_differ}
use Rattle.canonical_by_number.proofs.TokenSets.{keeps_all}
use Rattle.canonical_by_number.proofs.Closures.{joined_new, joined_old, pushed_within, replaced_within, value_replaced, value_within}
use Rattle.canonical_by_number.proofs.number_map.NumberMap.join.Goals as goal

pub returns-in_default-clause-kept : goal.returns-in_default-clause-kept
returns-in_default-clause-kept c = keeps_all c.args.sets.now

pub returns-in_default-clause-known : goal.returns-in_default-clause-known
returns-in_default-clause-known c = pushed_within c.args.sets.now c.args.self.now c.push.new.self c.args.number c.args.tokens c.in_ok-push.ensures.pushed c.requires.known c.requires.within

pub returns-in_default-clause-joined : goal.returns-in_default-clause-joined
returns-in_default-clause-joined c = joined_new c.args.sets.now c.args.number c.args.tokens c.args.self.now c.push.new.self c.in_ok-push.ensures.pushed

pub union-requires-clause-first : goal.union-requires-clause-first
union-requires-clause-first c =
    let found = rw (← c.self.view_is) at c.in-Some.ensures.found in
    let within = rw (← c.self.view_is) at c.requires.known in
    value_within c.self.inside.entries.items c.in-Some.place c.args.number c.index.result.now found c.index.ensures c.args.sets.now within

pub returns-clause-kept : goal.returns-clause-kept
returns-clause-kept c = c.in_ok-united.ensures.kept

pub returns-clause-known : goal.returns-clause-known
returns-clause-known c =
    let es = c.self.inside.entries.items in
    let found = rw (← c.self.view_is) at c.in-Some.ensures.found in
    let within = rw (← c.self.view_is) at c.requires.known in
    let says = c.in_ok-united.ensures in
    let known = value_within es c.in-Some.place c.args.number c.index.result.now found c.index.ensures c.args.sets.now within in
    replaced_within c.args.sets.now c.union.new.self says.kept says.differ es _ within c.args.number c.args.tokens c.index.result.now.1 c.in_ok-united.united known says.union
    (value_replaced es c.in-Some.place c.args.number c.in_ok-united.united c.index.result.now c.index_mut.result.now found c.index.ensures c.index_mut.ensures.value)

pub returns-clause-joined : goal.returns-clause-joined
returns-clause-joined c =
    let es = c.self.inside.entries.items in
    let found = rw (← c.self.view_is) at c.in-Some.ensures.found in
    let within = rw (← c.self.view_is) at c.requires.known in
    let says = c.in_ok-united.ensures in
    let known = value_within es c.in-Some.place c.args.number c.index.result.now found c.index.ensures c.args.sets.now within in
    rw (← c.self.view_is) (joined_old c.args.sets.now c.union.new.self says.kept says.differ es _ within c.args.number c.args.tokens c.index.result.now.1 c.in_ok-united.united known says.union
    (value_replaced es c.in-Some.place c.args.number c.in_ok-united.united c.index.result.now c.index_mut.result.now found c.index.ensures c.index_mut.ensures.value) (not (c.in_ok-united.united == c.index.result.now.1)) refl)

pub returns-clause-differ : goal.returns-clause-differ
returns-clause-differ c =
    let es = c.self.inside.entries.items in
    let found = rw (← c.self.view_is) at c.in-Some.ensures.found in
    changed_differ c.self.inside.places.items es c.self.invariant c.in-Some.place c.args.number found.0 c.in_ok-united.united c.index_mut.result.now found.1 c.index_mut.ensures.value
