use Rattle.std.proofs.Common.{◌≡◌, ◌∙◌, ◌<◌, ℕ, List, Some, ap, arith, length, nat_eq, subst, sym}
use Rattle.std.specs.Map.{lookup}
use Rattle.indexmap.specs.IndexMap.{get}
use Rattle.lalrpop_base.specs.Words.{Bits}
use Rattle.canonical_by_number.specs.TokenSets.{AreRemembered, pair_of}
use Rattle.canonical_by_number.proofs.TokenSets.{keeps_all, remembered_more, union_after, union_itself, union_known}
use Rattle.canonical_by_number.proofs.token_sets.TokenSets.union.Goals as goal

pub pair_of-key-requires-clause-first : goal.pair_of-key-requires-clause-first
pair_of-key-requires-clause-first c =
    let l : length c.self.inside.list.keys ≡ length c.args.self.now = ap (λ (sets : List Bits). length sets) c.self.view_is in
    let few = c.self.invariant.few in
    omega (arith, l, few, c.requires.first)

pub pair_of-key-requires-clause-second : goal.pair_of-key-requires-clause-second
pair_of-key-requires-clause-second c =
    let l : length c.self.inside.list.keys ≡ length c.args.self.now = ap (λ (sets : List Bits). length sets) c.self.view_is in
    let few = c.self.invariant.few in
    omega (arith, l, few, c.requires.second)

pub returns-then-first-second-clause-union : goal.returns-then-first-second-clause-union
returns-then-first-second-clause-union c = union_itself c.args.self.now c.args.first c.args.second c.requires.first c.if-first-second.true

pub returns-then-first-second-clause-kept : goal.returns-then-first-second-clause-kept
returns-then-first-second-clause-kept c = keeps_all c.args.self.now

pub returns-then-first-second-clause-differ : goal.returns-then-first-second-clause-differ
returns-then-first-second-clause-differ c = rw (← c.self.view_is) c.self.invariant.differ

pub returns-then-first-second-clause-few : goal.returns-then-first-second-clause-few
returns-then-first-second-clause-few c = rw (← c.self.view_is) c.self.invariant.few

pub returns-in-Some-clause-union : goal.returns-in-Some-clause-union
returns-in-Some-clause-union c =
    let l : length c.self.inside.list.keys ≡ length c.args.self.now = ap (λ (sets : List Bits). length sets) c.self.view_is in
    let few = c.self.invariant.few in
    let small : c.args.second < 4294967296 = omega (arith, l, few, c.requires.second) in
    let known : get nat_eq c.self.inside.unions (pair_of c.args.first c.args.second) ≡ Some c.in-Some.number.now = sym (c.in-Some.ensures.value ∙ ap (λ (k : ℕ). get nat_eq c.self.inside.unions k) c.pair_of-key.ensures) in
    rw (← c.self.view_is) (c.self.invariant.unions c.args.first c.args.second c.in-Some.number.now small known).is

pub returns-in-Some-clause-differ : goal.returns-in-Some-clause-differ
returns-in-Some-clause-differ c = rw (← c.self.view_is) c.self.invariant.differ

pub returns-in-Some-clause-few : goal.returns-in-Some-clause-few
returns-in-Some-clause-few c = rw (← c.self.view_is) c.self.invariant.few

pub returns-clause-union : goal.returns-clause-union
returns-clause-union c = rw (← c.self.view_is) (c.in_ok-number.ensures.number ∙ ap (λ (s : Bits). Some s) c.in_ok-union.ensures)

pub returns-clause-kept : goal.returns-clause-kept
returns-clause-kept c = rw (← c.self.view_is) c.in_ok-number.ensures.kept

pub invariant_of-self-2 : goal.invariant_of-self-2
invariant_of-self-2 c =
    let l : length c.self.inside.list.keys ≡ length c.args.self.now = ap (λ (sets : List Bits). length sets) c.self.view_is in
    let few = c.self.invariant.few in
    let first : c.args.first < length c.self.inside.list.keys = omega (arith, l, c.requires.first) in
    let second : c.args.second < length c.self.inside.list.keys = omega (arith, l, c.requires.second) in
    let small : c.args.second < 4294967296 = omega (arith, second, few) in
    let says = c.in_ok-number.ensures in
    let more = remembered_more c.self.inside.list.keys c.add_set.new.list.keys says.kept _ says.differ says.few c.self.invariant in
    let is = union_after c.self.inside.list.keys c.add_set.new.list.keys says.kept c.args.first c.args.second c.in_ok-number.number first second (says.number ∙ ap (λ (s : Bits). Some s) c.in_ok-union.ensures) in
    union_known c.add_set.new.list.keys _ _ c.args.first c.args.second c.in_ok-number.number small (rw c.pair_of-key.ensures at c.in_ok-insert.ensures.updates.0) is more

pub invariant_of-self : goal.invariant_of-self
invariant_of-self c =
    let says = c.in_err-number.ensures in
    remembered_more c.self.inside.list.keys c.add_set.new.list.keys says.kept _ says.differ says.few c.self.invariant

pub invariant_of-self-in_err-insert : goal.invariant_of-self-in_err-insert
invariant_of-self-in_err-insert c =
    let says = c.in_ok-number.ensures in
    let more = remembered_more c.self.inside.list.keys c.add_set.new.list.keys says.kept _ says.differ says.few c.self.invariant in
    subst (λ (es : List (ℕ × ℕ)). AreRemembered c.add_set.new.list.keys (λ (k : ℕ). lookup (nat_eq k) es)) (sym c.in_err-insert.ensures.err) more
