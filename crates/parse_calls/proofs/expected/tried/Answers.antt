use Rattle.std.proofs.Common.{◌≡◌, ℕ, List, ap, sym, ◌∙◌}
use Rattle.parse_calls.specs.Turns.{turn_at}
use Rattle.parse_calls.specs.declared.turns.Turn.TheVariants.{Stuck}
use Rattle.parse_calls.proofs.Tried.{stuck_is_refused}
use Rattle.parse_calls.proofs.expected.tried.Goals as goal

pub returns-in-Stuck : goal.returns-in-Stuck
returns-in-Stuck c =
    let m = c.args.machine.now in
    let stuck : Stuck ≡ turn_at c.args.tables.now m.stack.items c.args.token = sym c.in-Stuck.is ∙ c.turn_at.ensures ∙ ap (λ (s : List ℕ). turn_at c.args.tables.now s c.args.token) c.deref.ensures.value in
    sym (stuck_is_refused c.args.tables.now m.left m.stack.items c.args.token stuck)
