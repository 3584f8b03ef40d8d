use Rattle.std.proofs.Common.{refl, reverse, subst, sym}
use mathlib.Core.Bool.{true≢false}
use Rattle.lalrpop_base.specs.Words.{IsNullable}
use Rattle.lalrpop_traces.specs.Words.{edge_of, edge_suffix, path_of}
use Rattle.lalrpop_traces.proofs.theory.traces.CanMeet.{Opens-all, Opens-none}
use Rattle.lalrpop_traces.proofs.trace.can_meet.search_on.Goals as goal

closed : (c : goal.Then-not-is_nullable) → ¬ IsNullable c.args.first_sets.now.productions (edge_suffix (edge_of c.args.graph.now c.args.edge))
closed c d = true≢false (sym (c.if-not-is_nullable.ensures.1 (subst (IsNullable c.args.first_sets.now.productions) (sym c.labels.ensures.suffix) d)))

pub returns-then-not-is_nullable-clause-visits : goal.returns-then-not-is_nullable-clause-visits
returns-then-not-is_nullable-clause-visits c = λ _. Opens-none c.args.graph.now c.args.first_sets.now.productions (path_of (reverse c.args.path.now)) c.args.edge c.args.walk.now (closed c)

pub returns-then-not-is_nullable-clause-none : goal.returns-then-not-is_nullable-clause-none
returns-then-not-is_nullable-clause-none c = λ _ nullable. absurd (closed c nullable)

pub returns-clause-visits : goal.returns-clause-visits
returns-clause-visits c = λ _.
    let productions = c.args.first_sets.now.productions in
    Opens-all c.args.graph.now productions (path_of (reverse c.args.path.now)) c.args.edge c.args.walk.now c.visit_before.new.walk (subst (IsNullable productions) c.labels.ensures.suffix (c.if-not-is_nullable.ensures.0 refl)) c.in_ok-visit_before.ensures

pub returns-clause-none : goal.returns-clause-none
returns-clause-none c = λ _ nullable k there. c.in_ok-meets_before.ensures.none c.if-branch.false k there
