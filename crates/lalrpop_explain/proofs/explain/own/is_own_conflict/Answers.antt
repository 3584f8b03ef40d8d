use Rattle.std.proofs.Common.{refl}
use Rattle.lalrpop_explain.proofs.explain.own.is_own_conflict.Goals as goal

pub returns-then-not-reduces_own : goal.returns-then-not-reduces_own
returns-then-not-reduces_own c = record { own = (λ h. cc, λ own. c.if-not-reduces_own.ensures.own.1 own.production) }

pub returns : goal.returns
returns c = record {
  own = (
    λ yes. record { production = c.if-not-reduces_own.ensures.own.0 refl; action = c.reduces_own-2.ensures.own.0 yes },
    λ own. c.reduces_own-2.ensures.own.1 own.action,
  );
}
