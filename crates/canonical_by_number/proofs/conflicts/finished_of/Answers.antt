use Rattle.std.proofs.Common.{◌∙◌, ◌++◌, List, ℕ, ap, sym}
use Rattle.std.specs.Prelude.{get_or}
use Rattle.std.proofs.lemmas.List.{take_all}
use Rattle.canonical_by_number.specs.Conflicts.{finished_entries, finished_entry}
use Rattle.canonical_by_number.proofs.Closures.{entry_among}
use Rattle.canonical_by_number.proofs.CountedConflicts.{entries_more}
use Rattle.canonical_by_number.proofs.conflicts.finished_of.Goals as goal

pub add_if_finished-requires : goal.add_if_finished-requires
add_if_finished-requires c = c.requires (get_or c.args.list.now c.loop-entry.entry-index (0, 0)) (entry_among c.args.list.now c.loop-entry.entry-index c.loop-entry-test.true)

pub loop-entry-preserved : goal.loop-entry-preserved
loop-entry-preserved c =
    let n = c.args.numbers.now in
    let list : List (ℕ × ℕ) = c.args.list.now in
    let i = c.loop-entry.entry-index in
    c.in_ok-add_if_finished.ensures ∙ ap (λ (fs : List (ℕ × ℕ)). fs ++ finished_entry n (get_or list i (0, 0))) c.loop-entry.invariant ∙ sym (entries_more n list i c.loop-entry-test.true)

pub returns : goal.returns
returns c = c.loop-entry.invariant ∙ ap (finished_entries c.args.numbers.now) (take_all c.loop-entry.entry-index c.args.list.now c.loop-entry-test.false)
