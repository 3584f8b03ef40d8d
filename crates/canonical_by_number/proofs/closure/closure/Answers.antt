use Rattle.std.proofs.Common.{ℕ, List, subst}
use Rattle.std.specs.Prelude.{Contains}
use Rattle.std.proofs.lemmas.List.Sorted.{Contains-permutation, IsPermutation-sym}
use Rattle.lalrpop_collections.proofs.theory.lists.Members.{Contains-none}
use Rattle.lalrpop_construction.proofs.theory.closures.PropagatedItems.{number_known}
use Rattle.canonical_by_number.specs.TokenSets.{set_at}
use Rattle.canonical_by_number.proofs.TokenSets.{keeps_then, kept_within}
use Rattle.canonical_by_number.proofs.Closures.{packed_within, read_there}
use Rattle.canonical_by_number.proofs.Closing.{Numbered-closure}
use Rattle.canonical_by_number.proofs.closure.closure.Goals as goal

pub gather_kernel-requires-clause-packed : goal.gather_kernel-requires-clause-packed
gather_kernel-requires-clause-packed c = packed_within c.args.sets.now c.propagate_all.new.sets c.in_ok-propagate_all.ensures.kept c.args.kernel.now c.requires.packed

pub gather_kernel-requires-clause-table : goal.gather_kernel-requires-clause-table
gather_kernel-requires-clause-table c = rw c.clear.ensures (λ e h. absurd (Contains-none e h))

pub gather_nonterminals-requires-clause-numbered : goal.gather_nonterminals-requires-clause-numbered
gather_nonterminals-requires-clause-numbered c = λ e h.
    let shared = c.propagate_all.new.shared in
    let rising = c.take_rising.new.list.items in
    let m = set_at c.propagate_all.new.sets in
    let there = Contains-permutation rising shared e (IsPermutation-sym shared rising c.in_ok-take_rising.ensures.same) (subst (λ (es : List (ℕ × ℕ)). Contains es e) c.deref.ensures.value h) in
    number_known c.args.lr.now.construction.rules c.args.numbers.now c.requires.numbers e.0 (c.in_ok-propagate_all.ensures.shares.known (e.0, m e.1) (read_there m shared e.0 e.1 there))

pub gather_nonterminals-requires-clause-shared : goal.gather_nonterminals-requires-clause-shared
gather_nonterminals-requires-clause-shared c = λ e h.
    let shared = c.propagate_all.new.shared in
    let rising = c.take_rising.new.list.items in
    let there = Contains-permutation rising shared e (IsPermutation-sym shared rising c.in_ok-take_rising.ensures.same) (subst (λ (es : List (ℕ × ℕ)). Contains es e) c.deref.ensures.value h) in
    kept_within c.propagate_all.new.sets c.gather_kernel.new.sets c.in_ok-gather_kernel.ensures.kept e.1 (c.in_ok-propagate_all.ensures.known e there)

pub gather_nonterminals-requires-clause-table : goal.gather_nonterminals-requires-clause-table
gather_nonterminals-requires-clause-table c = c.in_ok-gather_kernel.ensures.known

pub returns-clause-kept : goal.returns-clause-kept
returns-clause-kept c =
    keeps_then c.args.sets.now c.propagate_all.new.sets c.gather_nonterminals.new.sets c.in_ok-propagate_all.ensures.kept (keeps_then c.propagate_all.new.sets c.gather_kernel.new.sets c.gather_nonterminals.new.sets c.in_ok-gather_kernel.ensures.kept c.in_ok-gather_nonterminals.ensures.kept)

pub returns-clause-closed : goal.returns-clause-closed
returns-clause-closed c =
    let propagated = c.in_ok-propagate_all.ensures in
    Numbered-closure c.args.lr.now.construction.rules c.args.numbers.now c.requires.numbers c.args.sets.now c.propagate_all.new.sets c.gather_kernel.new.sets c.gather_nonterminals.new.sets c.args.kernel.now c.requires.known c.requires.packed c.requires.kernel propagated.kept
    c.propagate_all.new.shared propagated.known propagated.shares c.take_rising.new.list.items c.in_ok-take_rising.ensures.same c.gather_kernel.new.table c.gather_nonterminals.new.table c.take_rising-2.new.list.items (rw c.clear.ensures at c.in_ok-gather_kernel.ensures) (rw c.deref.ensures.value at c.in_ok-gather_nonterminals.ensures) c.in_ok-take_rising-2.ensures.same c.in_ok-take_rising-2.ensures.rising
