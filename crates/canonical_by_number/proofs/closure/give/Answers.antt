use Rattle.std.proofs.Common.{List, ℕ, subst}
use Rattle.std.proofs.lemmas.Option.{slice_get_within}
use Rattle.lalrpop_base.specs.Words.{Bits, IsJoinedAt, readings}
use Rattle.canonical_by_number.specs.TokenSets.{set_at}
use Rattle.canonical_by_number.specs.Closures.{given_set}
use Rattle.canonical_by_number.proofs.TokenSets.{keeps_then, set_is}
use Rattle.canonical_by_number.proofs.Closures.{readings_kept, sets_within}
use Rattle.canonical_by_number.proofs.closure.give.Goals as goal

pub join-requires-clause-known : goal.join-requires-clause-known
join-requires-clause-known c = sets_within c.args.sets.now c.given_number.new.sets c.in_ok-given.ensures.kept c.args.shared.now c.requires.known

pub join-requires-clause-within : goal.join-requires-clause-within
join-requires-clause-within c = slice_get_within c.given_number.new.sets c.in_ok-given.given _ c.in_ok-given.ensures.given

pub returns-clause-kept : goal.returns-clause-kept
returns-clause-kept c = keeps_then c.args.sets.now c.given_number.new.sets c.join.new.sets c.in_ok-given.ensures.kept c.in_ok-changed.ensures.kept

pub returns-clause-given : goal.returns-clause-given
returns-clause-given c =
    let old = c.args.sets.now in
    let middle = c.given_number.new.sets in
    let new = c.join.new.sets in
    let symbol = c.args.symbol in
    let changed = c.in_ok-changed.changed in
    let set = set_is middle c.in_ok-given.given _ c.in_ok-given.ensures.given in
    subst (λ (rs : List (ℕ × Bits)). IsJoinedAt symbol (given_set c.args.nullable (set_at old c.args.first) (set_at old c.args.tokens)) changed rs (readings (set_at new) c.join.new.self)) (readings_kept old middle c.in_ok-given.ensures.kept c.args.shared.now c.requires.known)
    (subst (λ (s : Bits). IsJoinedAt symbol s changed (readings (set_at middle) c.args.shared.now) (readings (set_at new) c.join.new.self)) set c.in_ok-changed.ensures.joined)
