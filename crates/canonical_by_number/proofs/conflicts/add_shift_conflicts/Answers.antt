use Rattle.std.proofs.Common.{◌≡◌, ◌∙◌, ◌+◌, ◌<◌, ◌==◌, ℕ, List, None, Option, ap, arith, drop, length, sym}
use Rattle.std.specs.Prelude.{get_or}
use Rattle.std.proofs.lemmas.List.{at_drop_all, length-map}
use Rattle.std.proofs.lemmas.Option.{slice_get-get_or}
use Rattle.lalrpop_base.specs.Words.{Bits, symbol_at}
use Rattle.lalrpop_construction.specs.canonical.CanonicalAnswers.{up_to_greatest}
use Rattle.lalrpop_states.proofs.theory.conflicts.ConflictCounts.{no_shift_conflict}
use Rattle.lalrpop_states.specs.conflicts.ConflictCounts.{count_on_place}
use Rattle.canonical_by_number.specs.Conflicts.{reduction_in, reductions_in, shift_conflicts_of}
use Rattle.canonical_by_number.specs.Edges.{bit_of, shifts_in}
use Rattle.canonical_by_number.proofs.Closures.{entry_among}
use Rattle.canonical_by_number.proofs.CountedConflicts.{Counts-all, Counts-more, Counts-none, Shifts-left, bit_there}
use Rattle.canonical_by_number.proofs.conflicts.add_shift_conflicts.Goals as goal

pub offset_bounds-bits-edge : goal.offset_bounds-bits-edge
offset_bounds-bits-edge c =
    let e : ℕ × ℕ = get_or c.args.edges.now c.loop-edge.edge-index (0, 0) in
    let within = c.requires.edges e (entry_among c.args.edges.now c.loop-edge.edge-index c.loop-edge-test.true) in
    let listed : e.0 < length c.args.bits.now = omega (arith, within, c.requires.bits) in
    omega arith

pub bounds-bits-edge : goal.bounds-bits-edge
bounds-bits-edge c =
    let e : ℕ × ℕ = get_or c.args.edges.now c.loop-edge.edge-index (0, 0) in
    let within = c.requires.edges e (entry_among c.args.edges.now c.loop-edge.edge-index c.loop-edge-test.true) in
    omega (arith, within, c.requires.bits)

pub loop-edge-init : goal.loop-edge-init
loop-edge-init c = λ terminals are. Counts-none (shift_conflicts_of c.args.numbers.now c.args.sets.now terminals c.args.finished.now c.args.edges.now) c.args.old

pub loop-edge-preserved : goal.loop-edge-preserved
loop-edge-preserved c = λ terminals are.
    let n = c.args.numbers.now in
    let sets : List Bits = c.args.sets.now in
    let finished : List (ℕ × ℕ) = c.args.finished.now in
    let edges : List (ℕ × ℕ) = c.args.edges.now in
    let i = c.loop-edge.edge-index in
    let e : ℕ × ℕ = get_or edges i (0, 0) in
    let within = c.requires.edges e (entry_among edges i c.loop-edge-test.true) in
    let bit : Option ℕ = get_or c.args.bits.now e.0 None in
    let is : bit ≡ bit_of terminals (symbol_at n.symbols.items e.0) = bit_there terminals n.symbols.items c.args.bits.now are e.0 bit within (slice_get-get_or c.args.bits.now e.0 None (omega (arith, within, c.requires.bits))) in
    let all = shift_conflicts_of n sets terminals finished in
    Counts-more (all (drop (i + 1) edges)) (all (drop i edges)) (all edges) c.args.old c.loop-edge.count c.count_on_place-held.result c.saturating_add-count.result (c.loop-edge.invariant terminals are) c.saturating_add-count.ensures
    (Shifts-left n sets terminals finished edges i c.count_on_place-held.result c.loop-edge-test.true (c.count_on_place-held.ensures ∙ ap (λ (o : Option ℕ). count_on_place (reductions_in n sets finished) o) is))

pub returns : goal.returns
returns c = λ terminals are.
    Counts-all (shift_conflicts_of c.args.numbers.now c.args.sets.now terminals c.args.finished.now c.args.edges.now) c.args.old c.loop-edge.count _ (c.loop-edge.invariant terminals are)
    (at_drop_all (shift_conflicts_of c.args.numbers.now c.args.sets.now terminals c.args.finished.now) c.args.edges.now c.loop-edge.edge-index c.loop-edge-test.false)

pub returns-then-is_empty : goal.returns-then-is_empty
returns-then-is_empty c = λ terminals are n old.
    let numbers = c.args.numbers.now in
    let sets : List Bits = c.args.sets.now in
    let finished : List (ℕ × ℕ) = c.args.finished.now in
    let empty = ap (λ (k : ℕ). k == 0) (length-map finished (reduction_in numbers sets)) ∙ sym c.is_empty.ensures ∙ c.if-is_empty.true in
    let none = no_shift_conflict terminals (reductions_in numbers sets finished) (shifts_in numbers.symbols.items c.args.edges.now) empty in
    let same : n ≡ n + shift_conflicts_of numbers sets terminals finished c.args.edges.now = omega (arith, none) in
    old ∙ ap up_to_greatest same
