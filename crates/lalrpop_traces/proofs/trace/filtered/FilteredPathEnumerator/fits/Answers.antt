use Rattle.std.proofs.Common.{subst}
use Rattle.std.specs.Prelude.{IsTrue}
use Rattle.lalrpop_base.specs.Words.{Bits, has}
use Rattle.lalrpop_traces.proofs.theory.first.FirstTokens.{First-same}
use Rattle.lalrpop_traces.proofs.trace.filtered.FilteredPathEnumerator.fits.Goals as goal

pub returns-clause-yes : goal.returns-clause-yes
returns-clause-yes c = λ h. let m = c.is_intersecting.ensures.yes h in (c.in_ok-first.first, c.in_ok-first.ensures.first, m.0, m.1, m.2)

pub returns-clause-no : goal.returns-clause-no
returns-clause-no c = λ h m.
    c.is_intersecting.ensures.no h m.2 (subst (λ (s : Bits). IsTrue (has s m.2)) (First-same c.args.self.now.first_sets.now _ m.0 c.in_ok-first.first m.1 c.in_ok-first.ensures.first) m.3) m.4
