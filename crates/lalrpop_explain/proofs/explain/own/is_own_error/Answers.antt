use Rattle.std.proofs.Common.{refl}
use Rattle.lalrpop_explain.proofs.explain.own.is_own_error.Goals as goal

pub returns-then-not-are_own_states : goal.returns-then-not-are_own_states
returns-then-not-are_own_states c = record { own = (λ h. cc, λ own. c.if-not-are_own_states.ensures.own.1 (rw c.deref.ensures.value own.states)) }

pub returns : goal.returns
returns c = record {
  own = (
    λ yes. record { states = rw (← c.deref.ensures.value) (c.if-not-are_own_states.ensures.own.0 refl); conflicts = rw (← c.deref-2.ensures.value) (c.are_own_conflicts.ensures.own.0 yes) },
    λ own. c.are_own_conflicts.ensures.own.1 (rw c.deref-2.ensures.value own.conflicts),
  );
}
