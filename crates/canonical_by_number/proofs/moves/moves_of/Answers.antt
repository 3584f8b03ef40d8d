use Rattle.std.proofs.Common.{◌≡◌, ◌+◌, ◌++◌, ◌∷◌, [], ℕ, List, sym, subst, take}
use Rattle.std.specs.Prelude.{get_or}
use Rattle.std.proofs.lemmas.List.{take_all}
use Rattle.lalrpop_base.specs.Words.{Bits}
use Rattle.lalrpop_collections.proofs.theory.lists.Growth.{mapped_more}
use Rattle.lalrpop_collections.proofs.theory.lists.Members.{contains_map}
use Rattle.lalrpop_numbers.specs.declared.numbers.numbered.Numbered.{Numbered}
use Rattle.canonical_by_number.specs.Closures.{entries_in, entry_in}
use Rattle.canonical_by_number.specs.Kernels.{AreMovesIn}
use Rattle.canonical_by_number.proofs.Closures.{entry_among, entry_read}
use Rattle.canonical_by_number.proofs.PackedMoves.{Moves-begin}
use Rattle.canonical_by_number.proofs.moves.moves_of.Goals as goal

pub loop-entry-init : goal.loop-entry-init
loop-entry-init c = subst (λ (gs : List (ℕ × List ℕ)). AreMovesIn c.args.numbers.now c.args.sets.now [] gs) (sym c.clear.ensures) (Moves-begin c.args.sets.now c.args.numbers.now)

pub returns : goal.returns
returns c =
    subst (λ (xs : List (ℕ × ℕ)). AreMovesIn c.args.numbers.now c.args.sets.now (entries_in c.args.sets.now xs) c.loop-entry.moves) (take_all c.loop-entry.entry-index c.args.list.now c.loop-entry-test.false) c.loop-entry.invariant

pub add_move-requires-clause-known : goal.add_move-requires-clause-known
add_move-requires-clause-known c =
    let i = c.loop-entry.entry-index in
    let e : ℕ × ℕ = get_or c.args.list.now i (0, 0) in
    c.requires.known (entry_in c.args.sets.now e) (contains_map (entry_in c.args.sets.now) c.args.list.now e (entry_among c.args.list.now i c.loop-entry-test.true))

pub add_move-requires-clause-tokens : goal.add_move-requires-clause-tokens
add_move-requires-clause-tokens c =
    let i = c.loop-entry.entry-index in
    c.requires.sets (get_or c.args.list.now i (0, 0)) (entry_among c.args.list.now i c.loop-entry-test.true)

pub loop-entry-preserved : goal.loop-entry-preserved
loop-entry-preserved c =
    let sets : List Bits = c.args.sets.now in
    let list : List (ℕ × ℕ) = c.args.list.now in
    let i = c.loop-entry.entry-index in
    let e : ℕ × ℕ = get_or list i (0, 0) in
    let more : entries_in sets (take (i + 1) list) ≡ entries_in sets (take i list) ++ entry_in sets e ∷ [] = mapped_more (entry_in sets) list i e c.loop-entry-test.true (entry_read list i c.loop-entry-test.true) in
    subst (λ (is : List (Numbered Bits)). AreMovesIn c.args.numbers.now sets is c.add_move.new.moves) (sym more) (c.in_ok-add_move.ensures (entries_in sets (take i list)) c.loop-entry.invariant)
