use Rattle.std.proofs.Common.{◌∙◌, ap, arith, Some}
use Rattle.lalrpop_collections.proofs.theory.lists.Places.{slice_get_at}
use Rattle.canonical_by_number.proofs.PackedMoves.{Move-none, Move-over, next_known}
use Rattle.canonical_by_number.proofs.moves.add_move.Goals as goal

pub pair_of-requires-clause-first : goal.pair_of-requires-clause-first
pair_of-requires-clause-first c =
    let counted = c.args.numbers.now.counted in
    let at = slice_get_at c.args.numbers.now.behind.items c.args.item c.index.result.now (omega (arith, c.requires.known)) c.index.ensures ∙ ap Some c.in-Some.is in
    let next = next_known c.requires.numbers.0 c.args.numbers.now c.requires.numbers.1 c.args.item c.in-Some.symbol c.requires.known at in
    omega (arith, next, c.requires.few)

pub pair_of-requires-clause-second : goal.pair_of-requires-clause-second
pair_of-requires-clause-second c = omega (arith, c.requires.tokens, c.len-count.ensures.few)

pub returns-in_ok-push_at : goal.returns-in_ok-push_at
returns-in_ok-push_at c =
    let counted = c.args.numbers.now.counted in
    let at = slice_get_at c.args.numbers.now.behind.items c.args.item c.index.result.now (omega (arith, c.requires.known)) c.index.ensures ∙ ap Some c.in-Some.is in
    let pushed = rw c.pair_of.ensures at c.in_ok-push_at.ensures.pushed in
    λ items before. Move-over c.args.sets.now c.requires.numbers.0 c.args.numbers.now c.requires.numbers.1 items c.args.item c.args.tokens c.requires.known c.requires.tokens c.len-count.ensures.few c.in-Some.symbol _ _ at pushed c.in_ok-push_at.ensures.differ before

pub returns-in_default : goal.returns-in_default
returns-in_default c =
    let counted = c.args.numbers.now.counted in
    let at = slice_get_at c.args.numbers.now.behind.items c.args.item c.index.result.now (omega (arith, c.requires.known)) c.index.ensures ∙ ap Some c.in_default.is in
    λ items before. Move-none c.args.sets.now c.requires.numbers.0 c.args.numbers.now c.requires.numbers.1 items c.args.item c.args.tokens c.requires.known _ at before
