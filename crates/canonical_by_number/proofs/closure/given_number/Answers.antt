use Rattle.std.proofs.Common.{◌≡◌, Bool, Some, sym, subst}
use Rattle.std.specs.Prelude.{slice_get}
use Rattle.canonical_by_number.specs.TokenSets.{set_at}
use Rattle.canonical_by_number.specs.Closures.{given_set}
use Rattle.canonical_by_number.proofs.TokenSets.{keeps_all, set_there}
use Rattle.canonical_by_number.proofs.closure.given_number.Goals as goal

pub returns-then-not-nullable-clause-kept : goal.returns-then-not-nullable-clause-kept
returns-then-not-nullable-clause-kept c = keeps_all c.args.sets.now

pub returns-then-not-nullable-clause-given : goal.returns-then-not-nullable-clause-given
returns-then-not-nullable-clause-given c =
    let sets = c.args.sets.now in
    subst (λ (b : Bool). slice_get sets c.args.first ≡ Some (given_set b (set_at sets c.args.first) (set_at sets c.args.tokens))) (sym c.if-not-nullable.true) (set_there sets c.args.first c.requires.first)

pub returns-clause-given : goal.returns-clause-given
returns-clause-given c =
    let sets = c.args.sets.now in
    subst (λ (b : Bool). slice_get c.union.new.self c.in_ok-given.given ≡ Some (given_set b (set_at sets c.args.first) (set_at sets c.args.tokens))) (sym c.if-not-nullable.false) c.in_ok-given.ensures.union
