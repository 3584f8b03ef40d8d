use Rattle.std.proofs.Common.{◌∙◌, ap, arith, Some}
use Rattle.lalrpop_construction.proofs.theory.construction.NumberedMoves.{Added-none, Added-over}
use Rattle.lalrpop_collections.proofs.theory.lists.Places.{slice_get_at}
use Rattle.lalrpop_construction.proofs.construction.transitions.add_move.Goals as goal

pub returns-in_ok-push_at-clause-known : goal.returns-in_ok-push_at-clause-known
returns-in_ok-push_at-clause-known g c =
    let counted = c.args.numbers.now.counted in
    let at = slice_get_at c.args.numbers.now.behind.items c.args.item.now.number c.index.result.now (omega (arith, c.requires.known)) c.index.ensures ∙ ap Some c.in-Some.is in
    let pushed = rw c.in_ok-copy.ensures at c.in_ok-push_at.ensures.pushed in
    λ of. (Added-over c.requires.numbers.0 c.args.numbers.now c.requires.numbers.1 c.args.item.now c.requires.known c.in-Some.symbol _ _ at pushed c.in_ok-push_at.ensures.differ of).0

pub returns-in_ok-push_at-clause-added : goal.returns-in_ok-push_at-clause-added
returns-in_ok-push_at-clause-added g c =
    let counted = c.args.numbers.now.counted in
    let at = slice_get_at c.args.numbers.now.behind.items c.args.item.now.number c.index.result.now (omega (arith, c.requires.known)) c.index.ensures ∙ ap Some c.in-Some.is in
    let pushed = rw c.in_ok-copy.ensures at c.in_ok-push_at.ensures.pushed in
    λ of. (Added-over c.requires.numbers.0 c.args.numbers.now c.requires.numbers.1 c.args.item.now c.requires.known c.in-Some.symbol _ _ at pushed c.in_ok-push_at.ensures.differ of).1

pub returns-in_default-clause-added : goal.returns-in_default-clause-added
returns-in_default-clause-added g c =
    let counted = c.args.numbers.now.counted in
    let at = slice_get_at c.args.numbers.now.behind.items c.args.item.now.number c.index.result.now (omega (arith, c.requires.known)) c.index.ensures ∙ ap Some c.in_default.is in
    λ of. Added-none c.requires.numbers.0 c.args.numbers.now c.requires.numbers.1 c.args.item.now c.requires.known _ at
