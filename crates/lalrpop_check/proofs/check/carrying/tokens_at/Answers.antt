use Rattle.std.proofs.Common.{◌≡◌, ◌∙◌, sym, subst}
use Rattle.std.specs.Prelude.{Contains}
use Rattle.lalrpop_base.specs.Words.{Bits}
use Rattle.lalrpop_collections.proofs.theory.lists.Growth.{key_entry}
use Rattle.lalrpop_collections.proofs.theory.lists.Places.{same_some}
use Rattle.lalrpop_check.proofs.check.carrying.tokens_at.Goals as goal

pub unreachable-requires : goal.unreachable-requires
unreachable-requires c =
    let e = key_entry c.args.table.now.entries c.args.place.now c.requires.found in
    let some = rw c.in-None.is at (c.find_tokens.ensures.all c.requires.differ e.0 e.1) in
    cc

pub returns : goal.returns
returns c =
    let e = key_entry c.args.table.now.entries c.args.place.now c.requires.found in
    let some = rw c.in-Some.is at (c.find_tokens.ensures.all c.requires.differ e.0 e.1) in
    let same : c.in-Some.tokens.now ≡ e.0 = same_some c.in-Some.tokens.now e.0 some in
    subst (λ (s : Bits). Contains c.args.table.now.entries (c.args.place.now, s)) (sym same ∙ sym c.in_ok-clone-in-Some.ensures) e.1
