use Rattle.std.proofs.Common.{◌≡◌, [], ◌∷◌, ◌++◌, ap, subst, ◌∙◌}
use Rattle.std.specs.Prelude.{IfOk}
use Rattle.lalrpop_base.specs.Words.{contents_in}
use Rattle.parse_pictures.specs.NextTokens.{IsShiftingAll}
use Rattle.parse_pictures.proofs.expected.shifts_all_with.Goals as goal

pub returns : goal.returns
returns g c =
    let states = contents_in (g.L.LookaheadInterpret.holds c.args.terminals.now) c.args.states.now in
    let t = c.args.terminal.now in
    let whole : c.push.new.self.items ≡ c.args.before.now ++ t ∷ [] = c.in_ok-push.ensures.items ∙ ap (λ x. c.in_ok-tokens.tokens.items ++ x ∷ []) c.in_ok-clone.ensures ∙ ap (λ l. l ++ t ∷ []) c.in_ok-tokens.ensures in
    subst (λ l. IfOk c.shifts_all.result (IsShiftingAll states c.args.limit l)) whole c.shifts_all.ensures
