use Rattle.std.proofs.Common.{◌≡◌, ℕ, ◌∙◌, ap, subst}
use Rattle.std.specs.Prelude.{IfErr}
use Rattle.lalrpop_base.specs.Words.{Bits}
use Rattle.lalrpop_construction.specs.Words.{Settings, canonical_of}
use Rattle.lalrpop_construction.specs.Words.{FailsByConflicts}
use Rattle.lalrpop_construction.proofs.construction.canonical.build_canonical_states.Goals as goal

pub returns-clause-tables : goal.returns-clause-tables
returns-clause-tables c =
    let g = c.args.grammar.now in
    let start = c.args.lr.construction.start in
    let canonical = c.set_stop_after.new.self in
    let same : canonical.construction ≡ canonical_of g start = ap (λ (s : Settings Bits). s.construction) c.set_stop_after.ensures ∙ c.in_ok-canonical.ensures in
    c.build_lr1_states.ensures.tables g start same

pub returns-clause-no_tables : goal.returns-clause-no_tables
returns-clause-no_tables c =
    let g = c.args.grammar.now in
    let start = c.args.lr.construction.start in
    let canonical = c.set_stop_after.new.self in
    let r = c.build_lr1_states.result in
    let same : canonical.construction ≡ canonical_of g start = ap (λ (s : Settings Bits). s.construction) c.set_stop_after.ensures ∙ c.in_ok-canonical.ensures in
    let stop : canonical.stop_after ≡ c.args.stop_after = ap (λ (s : Settings Bits). s.stop_after) c.set_stop_after.ensures in
    subst (λ (n : ℕ). IfErr r (FailsByConflicts n g start)) stop (c.build_lr1_states.ensures.no_tables g start same)
