use Rattle.std.proofs.Common.{◌≡◌, ℕ, ◌<◌, List, Some, ap, length, slice_get, subst, sym, ◌∙◌}
use Rattle.lalrpop_collections.proofs.theory.lists.Places.{slice_get_at}
use Rattle.parse_tables.proofs.table.ParseTable.side.Goals as goal

pub returns-clause-found : goal.returns-clause-found
returns-clause-found c p at =
    let k = c.args.production in
    let found = c.in-Some.ensures.lookup in
    let there : slice_get c.args.self.now.sides.items k ≡ Some c.in-Some.side.now = ap (λ (sides : List (ℕ × ℕ)). slice_get sides k) (sym c.deref.ensures.value) ∙ slice_get_at c.deref.result.now k c.in-Some.side.now found.3.0 found.1 in
    c.args.self.now.sided k p c.in-Some.side.now at there

pub returns-clause-within : goal.returns-clause-within
returns-clause-within c =
    let k = c.args.production in
    let few : k < length c.args.self.now.sides.items = subst (λ (sides : List (ℕ × ℕ)). k < length sides) c.deref.ensures.value c.in-Some.ensures.lookup.3.0 in
    subst (λ n. k < n) c.args.self.now.counted few
