use Rattle.std.proofs.Common.{ℕ, List, ap, map, sym, subst}
use Rattle.std.specs.Prelude.{Contains}
use Rattle.lalrpop_base.specs.Words.{AreNumbered, Bits, items_by}
use Rattle.lalrpop_collections.proofs.theory.lists.Members.{contains_map}
use Rattle.lalrpop_collections.proofs.theory.lists.Places.{contains_at}
use Rattle.lalrpop_numbers.specs.declared.numbers.numbered.Numbered.{Numbered}
use Rattle.canonical_by_number.specs.TokenSets.{AreSetsIn}
use Rattle.canonical_by_number.specs.Closures.{entries_in, entry_in, kernel_in}
use Rattle.canonical_by_number.specs.Kernels.{AreKernelsIn}
use Rattle.canonical_by_number.proofs.CountedConflicts.{finished_among}
use Rattle.canonical_by_number.proofs.OneMoreState.{State-more, handed_one, kernels_still}
use Rattle.canonical_by_number.proofs.states.next_state.Goals as goal

pub closure-requires-clause-known : goal.closure-requires-clause-known
closure-requires-clause-known c =
    let sets : List Bits = c.args.sets.now in
    let list = ap (λ k. k.list) c.in-Some.ensures.some in
    let among = contains_at c.args.kernels.now.list c.items.result.now c.in-Some.number (rw list at c.items.ensures) in
    c.requires.kernels.known (kernel_in sets c.items.result.now) (contains_map (kernel_in sets) c.args.kernels.now.list c.items.result.now among)

pub closure-requires-clause-packed : goal.closure-requires-clause-packed
closure-requires-clause-packed c =
    let list = ap (λ k. k.list) c.in-Some.ensures.some in
    c.requires.kernels.packed c.items.result.now (contains_at c.args.kernels.now.list c.items.result.now c.in-Some.number (rw list at c.items.ensures))

pub closure-requires-clause-kernel : goal.closure-requires-clause-kernel
closure-requires-clause-kernel c =
    let sets : List Bits = c.args.sets.now in
    let items = c.args.numbers.now.items.items in
    let list = ap (λ k. k.list) c.in-Some.ensures.some in
    let among = contains_at c.args.kernels.now.list c.items.result.now c.in-Some.number (rw list at c.items.ensures) in
    let lists : List (List (Numbered Bits)) = map (kernel_in sets) c.args.kernels.now.list in
    c.requires.made.1.building.of (items_by items (kernel_in sets c.items.result.now)) (contains_map (items_by items) lists (kernel_in sets c.items.result.now) (contains_map (kernel_in sets) c.args.kernels.now.list c.items.result.now among))

pub finished_of-requires : goal.finished_of-requires
finished_of-requires c = λ e h. c.in_ok-closure.ensures.closed.numbered (entry_in c.closure.new.sets e) (contains_map (entry_in c.closure.new.sets) c.closure.new.list.items e (subst (λ (es : List (ℕ × ℕ)). Contains es e) c.deref.ensures.value h))

pub transitions-requires-clause-kernels : goal.transitions-requires-clause-kernels
transitions-requires-clause-kernels c =
    subst (AreKernelsIn c.args.numbers.now c.closure.new.sets) (sym (ap (λ k. k.list) c.in-Some.ensures.some)) (kernels_still c.args.numbers.now c.args.sets.now c.closure.new.sets c.in_ok-closure.ensures.kept c.args.kernels.now.list c.requires.kernels)

pub transitions-requires-clause-known : goal.transitions-requires-clause-known
transitions-requires-clause-known c =
    let items = c.args.numbers.now.items.items in
    subst (λ (es : List (ℕ × ℕ)). AreNumbered items (entries_in c.closure.new.sets es)) (sym c.deref-2.ensures.value) c.in_ok-closure.ensures.closed.numbered

pub transitions-requires-clause-sets : goal.transitions-requires-clause-sets
transitions-requires-clause-sets c = subst (λ (es : List (ℕ × ℕ)). AreSetsIn c.closure.new.sets es) (sym c.deref-2.ensures.value) c.in_ok-closure.ensures.closed.known

pub returns-clause-made : goal.returns-clause-made
returns-clause-made c = λ _ states made.
    let list = ap (λ k. k.list) c.in-Some.ensures.some in
    State-more c.args.lr.now.construction c.args.numbers.now c.requires.numbers c.args.sets.now c.closure.new.sets c.in_ok-closure.ensures.kept c.args.kernels.now c.next.new.self c.transitions.new.kernels c.in-Some.number c.items.result.now c.transitions.new.edges.items c.closure.new.list c.finished_of.new.finished
    c.requires.kernels c.in-Some.ensures.some c.in-Some.ensures.next (rw list at c.items.ensures) c.in_ok-closure.ensures.closed (rw c.deref.ensures.value at c.in_ok-finished_of.ensures)
    (λ e h. c.in_ok-closure.ensures.closed.numbered (entry_in c.closure.new.sets e) (contains_map (entry_in c.closure.new.sets) c.closure.new.list.items e h)) (rw c.deref-2.ensures.value at c.in_ok-transitions.ensures.transitions) c.in_ok-transitions.ensures.kernels states made

pub returns-clause-finished : goal.returns-clause-finished
returns-clause-finished c = λ _ e h.
    let done = rw c.deref.ensures.value at c.in_ok-finished_of.ensures in
    c.in_ok-closure.ensures.closed.known e (finished_among c.args.numbers.now c.closure.new.list.items e (subst (λ (es : List (ℕ × ℕ)). Contains es e) done h))

pub returns-clause-counted : goal.returns-clause-counted
returns-clause-counted c = λ _.
    let list = ap (λ k. k.list) c.in-Some.ensures.some in
    handed_one c.args.lr.now.construction c.args.numbers.now c.requires.numbers c.args.sets.now c.closure.new.sets c.in_ok-closure.ensures.kept c.args.kernels.now c.next.new.self c.transitions.new.kernels c.in-Some.number c.items.result.now c.transitions.new.edges.items c.closure.new.list c.finished_of.new.finished
    c.requires.kernels c.in-Some.ensures.some c.in-Some.ensures.next (rw list at c.items.ensures) c.in_ok-closure.ensures.closed (rw c.deref.ensures.value at c.in_ok-finished_of.ensures)
    (λ e h. c.in_ok-closure.ensures.closed.numbered (entry_in c.closure.new.sets e) (contains_map (entry_in c.closure.new.sets) c.closure.new.list.items e h)) (rw c.deref-2.ensures.value at c.in_ok-transitions.ensures.transitions) c.in_ok-transitions.ensures.kernels
