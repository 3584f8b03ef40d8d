use Rattle.std.proofs.Common.{◌≡◌, ℕ, inl, length, refl, subst, arith}
use Rattle.std.proofs.lemmas.Option.{slice_get_read}
use Rattle.lalrpop_numbers.proofs.theory.construction.Contained.{added_or_not, decided_kernel}
use Rattle.conflict_causes.specs.Causes.{IsSameCause}
use Rattle.conflict_causes.specs.Keys.{IsKey}
use Rattle.conflict_causes.proofs.Groups.{AreKeyed, are_groups, put_in}
use Rattle.conflict_causes.proofs.SameKeys.{same_itself, same_key}
use Rattle.conflict_causes.proofs.causes.causes.Goals as goal

pub loop-number-preserved : goal.loop-number-preserved
loop-number-preserved c =
    let states = c.args.states.now in
    let conflicts = c.args.conflicts.now in
    let number = c.loop-number.number in
    let conflict = c.index-conflicts-number.result in
    let put = c.in_ok-put_conflict.ensures in
    put_in (IsKey states) conflicts number conflict put.key
    (slice_get_read conflicts (length conflicts) number conflict refl c.loop-number-test.true c.index-conflicts-number.is) put.is_key
    c.loop-number.keys.list c.put_conflict.new.keys.list c.loop-number.causes.items c.put_conflict.new.causes.items
    c.loop-number.invariant put.differ put.number put.there
    (added_or_not (decided_kernel (λ x y. inl refl)) c.loop-number.keys.list c.put_conflict.new.keys.list put.key put.added) put.put

pub returns : goal.returns
returns c =
    let states = c.args.states.now in
    let conflicts = c.args.conflicts.now in
    let all : c.loop-number.number ≡ length conflicts = omega arith in
    record {
      causes = are_groups (IsKey states) conflicts (IsSameCause states) (same_itself states) (same_key states) c.loop-number.keys.list c.loop-number.causes.items
          (subst (λ (n : ℕ). AreKeyed (IsKey states) conflicts n c.loop-number.keys.list c.loop-number.causes.items) all c.loop-number.invariant);
    }
