use Rattle.std.proofs.Common.{◌%◌, sym, subst, List, ℕ}
use Rattle.std.specs.Prelude.{get_or}
use Rattle.std.proofs.lemmas.List.{take_all}
use Rattle.lalrpop_construction.specs.Words.{parts_in}
use Rattle.lalrpop_construction.proofs.theory.closures.PropagatedItems.{read_within}
use Rattle.lalrpop_states.specs.closures.Closure.{itself}
use Rattle.canonical_by_number.specs.Closures.{GathersNumbers, kernel_in}
use Rattle.canonical_by_number.proofs.TokenSets.{kept_within}
use Rattle.canonical_by_number.proofs.Closures.{Gathers-nothing}
use Rattle.canonical_by_number.proofs.Gathering.{Kernel_gathered-more}
use Rattle.canonical_by_number.proofs.closure.gather_kernel.Goals as goal

pub loop-packed-init : goal.loop-packed-init
loop-packed-init c = Gathers-nothing c.args.sets.now c.args.table.now c.requires.table

pub join-requires-clause-known : goal.join-requires-clause-known
join-requires-clause-known c = c.loop-packed.invariant.known

pub join-requires-clause-within : goal.join-requires-clause-within
join-requires-clause-within c =
    let i = c.loop-packed.packed-index in
    let x = get_or c.args.kernel.now i 0 in
    kept_within c.args.sets.now c.loop-packed.sets c.loop-packed.invariant.kept (x % 4294967296) (c.requires.packed x (i, c.loop-packed-test.true, sym (read_within c.args.kernel.now i c.loop-packed-test.true)))

pub loop-packed-preserved : goal.loop-packed-preserved
loop-packed-preserved c =
    let i = c.loop-packed.packed-index in
    let x = get_or c.args.kernel.now i 0 in
    let at = read_within c.args.kernel.now i c.loop-packed-test.true in
    let says = c.in_ok-join.ensures in
    Kernel_gathered-more c.args.sets.now c.loop-packed.sets c.join.new.sets c.args.table.now c.loop-packed.table c.join.new.self c.args.kernel.now i x c.loop-packed-test.true at (c.requires.packed x (i, c.loop-packed-test.true, sym at)) c.loop-packed.invariant _ says.kept says.known says.joined says.differ

pub returns : goal.returns
returns c =
    subst (λ (xs : List ℕ). GathersNumbers (parts_in itself (kernel_in c.args.sets.now xs)) c.args.sets.now c.loop-packed.sets c.args.table.now c.loop-packed.table) (take_all c.loop-packed.packed-index c.args.kernel.now c.loop-packed-test.false) c.loop-packed.invariant
