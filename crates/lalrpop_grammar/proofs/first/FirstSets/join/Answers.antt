use Rattle.std.proofs.Common.{◌≡◌, ◌<◌, ◌∙◌, false, length, get_or, ap, arith}
use Rattle.std.proofs.lemmas.List.{get_or_default}
use Rattle.lalrpop_collections.specs.Words.{no_bits}
use Rattle.lalrpop_collections.specs.lists.Spreading.{set_at}
use Rattle.lalrpop_grammar.specs.Words.{place}
use Rattle.lalrpop_grammar.proofs.theory.first.FirstLists.{Name-joined}
use Rattle.lalrpop_grammar.proofs.first.FirstSets.join.Goals as goal

pub returns : goal.returns
returns c =
    let sets = c.self.inside.sets.items in
    let flags = c.self.inside.nullable.items in
    let n = place c.self.inside.names c.args.name.now in
    let in_sets : c.number-number.result < length sets = let count = c.self.invariant.counted in let most = c.number-number.ensures.most in omega arith in
    let in_flags : c.number-number.result < length flags = let count = c.self.invariant.flagged in let most = c.number-number.ensures.most in omega arith in
    let set : c.index.result.now ≡ set_at sets n = c.index.ensures ∙ get_or_default sets c.number-number.result c.index.result.now no_bits in_sets ∙ ap (set_at sets) c.number-number.ensures.place in
    let flag : c.index-2.result.now ≡ get_or flags n false = c.index-2.ensures ∙ get_or_default flags c.number-number.result c.index-2.result.now false in_flags ∙ ap (λ k. get_or flags k false) c.number-number.ensures.place in
    rw (flag, ← c.self.view_is) (Name-joined _ _ _ _ _ _ (c.self.invariant.first c.args.name.now) (rw set at c.in_ok-union_with.ensures.joined))
