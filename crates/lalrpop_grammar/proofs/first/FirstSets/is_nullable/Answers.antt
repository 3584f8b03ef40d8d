use Rattle.std.proofs.Common.{◌≡◌, ◌<◌, ◌∙◌, false, length, get_or, ap, arith}
use Rattle.std.proofs.lemmas.List.{get_or_default}
use Rattle.lalrpop_grammar.specs.Words.{place}
use Rattle.lalrpop_grammar.proofs.first.FirstSets.is_nullable.Goals as goal

pub returns : goal.returns
returns c =
    let flags = c.self.inside.nullable.items in
    let within : c.number.result < length flags = let count = c.self.invariant.flagged in let most = c.number.ensures.most in omega arith in
    let flag : c.index.result.now ≡ get_or flags (place c.self.inside.names c.args.name.now) false = c.index.ensures ∙ get_or_default flags c.number.result c.index.result.now false within ∙ ap (λ k. get_or flags k false) c.number.ensures.place in
    record { nullable = rw (flag, ← c.self.view_is) (c.self.invariant.first c.args.name.now).told }
