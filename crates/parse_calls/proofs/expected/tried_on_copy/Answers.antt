use Rattle.std.proofs.Common.{[], ◌∷◌, ap, sym}
use Rattle.parse_calls.specs.Runs.{Run}
use Rattle.parse_calls.proofs.Parses.{made_from}
use Rattle.parse_calls.proofs.expected.tried_on_copy.Goals as goal

pub returns : goal.returns
returns c =
    let m = c.args.machine.now in
    sym (ap (λ (r : Run). r.ending) (made_from c.args.tables.now (c.args.token ∷ []) m.left m.stack.items [] c.in_ok-copy.ensures.stack c.in_ok-copy.ensures.events c.in_ok-copy.ensures.left c.in_ok-end.ensures))
