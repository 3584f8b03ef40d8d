use Rattle.std.proofs.Common.{◌++◌, ◌∷◌, [], ap, sym, subst, ◌∙◌}
use Rattle.lalrpop_base.specs.Words.{contents_in}
use Rattle.parse_pictures.specs.NextTokens.{AreNext, IsShiftingAll}
use Rattle.parse_pictures.proofs.NextTokens.{next_after, other_after}
use Rattle.parse_pictures.proofs.expected.push_if_next.Goals as goal

pub returns-then-shifts : goal.returns-then-shifts
returns-then-shifts g c ts had =
    let states = contents_in (g.L.LookaheadInterpret.holds c.args.terminals.now) c.args.states.now in
    let w = c.args.before.now ++ c.args.terminal.now ∷ [] in
    let goes = subst (IsShiftingAll states c.args.limit w) c.if-shifts.true c.in_ok-shifts.ensures in
    subst (AreNext states c.args.limit c.args.before.now (ts ++ c.args.terminal.now ∷ [])) (sym (c.in_ok-push.ensures.items ∙ ap (λ t. c.args.next.now.items ++ t ∷ []) c.in_ok-clone.ensures)) (next_after c.args.terminal.now goes had)

pub returns : goal.returns
returns g c ts had =
    let states = contents_in (g.L.LookaheadInterpret.holds c.args.terminals.now) c.args.states.now in
    let w = c.args.before.now ++ c.args.terminal.now ∷ [] in
    let stops = subst (IsShiftingAll states c.args.limit w) c.if-shifts.false c.in_ok-shifts.ensures in
    other_after c.args.terminal.now stops had
