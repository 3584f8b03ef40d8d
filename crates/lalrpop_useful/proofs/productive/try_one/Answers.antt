use Rattle.std.proofs.Common.{refl, subst, sym}
use Rattle.std.proofs.lemmas.Bool.{false≢true}
use Rattle.lalrpop_useful.specs.Words.{AreNonterminalsAmong, came, left}
use Rattle.lalrpop_useful.proofs.productive.try_one.Goals as goal

pub returns-then-has_key : goal.returns-then-has_key
returns-then-has_key c = left refl (λ all. c.has_key.ensures.0 c.if-has_key.true)

pub returns-then-not-are_among : goal.returns-then-not-are_among
returns-then-not-are_among c = left refl (λ all. absurd (false≢true (c.if-not-are_among.ensures.1 (subst (AreNonterminalsAmong c.args.walk.now.visited.keys) (sym c.as_slice.ensures) all))))

pub returns : goal.returns
returns c = came (subst (AreNonterminalsAmong c.args.walk.now.visited.keys) c.as_slice.ensures (c.if-not-are_among.ensures.0 refl)) c.in_ok-visit.ensures
