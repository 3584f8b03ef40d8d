use Rattle.std.proofs.Common.{◌≡◌, ◌∙◌, ap, subst, sym}
use Rattle.lalrpop_base.specs.Words.{Bits, FitsTokens}
use Rattle.lalrpop_construction.proofs.theory.construction.Lookaheads.{eof_fits}
use Rattle.lalrpop_construction.specs.Words.{Construction, Settings, canonical_of, construction_of}
use Rattle.canonical_by_number.specs.Conflicts.{IsConflictTotal}
use Rattle.canonical_by_number.proofs.canonical.count_canonical_conflicts.Goals as goal

pub new-requires-clause-fits : goal.new-requires-clause-fits
new-requires-clause-fits c =
    let own = c.args.grammar.now.terminals in
    subst (FitsTokens own) (sym c.in_ok-eof.ensures) (eof_fits own)

pub returns : goal.returns
returns c =
    let g = c.args.grammar.now in
    let start = c.args.start in
    let same : c.in_ok-lr.lr.construction ≡ canonical_of g start = ap (λ (s : Settings Bits). s.construction) c.in_ok-lr.ensures ∙ ap (construction_of g start) c.in_ok-eof.ensures in
    subst (λ (k : Construction Bits). IsConflictTotal k c.in_ok-count.count) same c.in_ok-count.ensures
