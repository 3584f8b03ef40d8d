use Rattle.std.proofs.Common.{◌≡◌, ◌∙◌, List, ℕ, map, subst, ap}
use Rattle.std.specs.List.{flat_map}
use Rattle.std.proofs.lemmas.Result.{IfOk-weaker, IfErr-weaker}
use Rattle.lalrpop_base.specs.Words.{Bits, state_conflicts, AreFirstNumbers, AreMoved, number_in}
use Rattle.lalrpop_tables.specs.Words.{dots_in, IsCollapsed, AreOrdered}
use Rattle.lalrpop_tables.proofs.Types.{State}
use Rattle.lalrpop_collections.proofs.theory.lists.BothFacts.{MatchResult-both}
use Rattle.lalrpop_tables.proofs.theory.collapse.CollapseResults.{Answer-ordered}
use Rattle.lalrpop_tables.proofs.theory.collapse.MergedCollapse.{Merged-collapsed, Collapse-tables, Collapse-failure}
use Rattle.lalrpop_tables.proofs.build_lalr.merge_states.Goals as goal

pub returns-clause-merged : goal.returns-clause-merged
returns-clause-merged c =
    let terminals = c.args.terminals.now in
    let before : List (State Bits) = c.args.states.items in
    let moved : List (State Bits) = c.in_ok-numbered.numbered.items in
    let merged : List (State Bits) = c.in_ok-merged.merged.items in
    let after : List (State Bits) = c.in_ok-reduced.reduced.items in
    let numbers : List ℕ = c.in_ok-numbers.numbers.items in
    let named : AreFirstNumbers (map dots_in before) numbers = subst (λ (xs : List (State Bits)). AreFirstNumbers (map dots_in xs) numbers) c.deref.ensures.value c.in_ok-numbers.ensures in
    let under_new : AreMoved (number_in numbers) before moved = subst (λ (ns : List ℕ). AreMoved (number_in ns) before moved) c.deref-2.ensures.value c.in_ok-numbered.ensures in
    let collapsed : IsCollapsed before after = Merged-collapsed before moved merged after numbers c.requires named under_new c.in_ok-merged.ensures c.in_ok-reduced.ensures in
    let conflicts = c.in_ok-conflicts.conflicts.items in
    let all : conflicts ≡ flat_map (state_conflicts terminals) after = c.in_ok-conflicts.ensures ∙ ap (flat_map (state_conflicts terminals)) c.deref-4.ensures.value in
    let r = c.tables_or_conflicts.result in
    MatchResult-both r _ _
    (IfOk-weaker r _ _ (λ tables t. Collapse-tables terminals before after conflicts collapsed all tables.items t.0 t.1) c.tables_or_conflicts.ensures.ok)
    (IfErr-weaker r _ _ (λ error f. Collapse-failure terminals before after conflicts collapsed all error f) c.tables_or_conflicts.ensures.failure)

pub returns-clause-ordered : goal.returns-clause-ordered
returns-clause-ordered c =
    let after : List (State Bits) = c.in_ok-reduced.reduced.items in
    let ordered : AreOrdered after = subst AreOrdered c.deref-3.ensures.value c.read_order.ensures in
    Answer-ordered (λ tables. tables.items) after c.in_ok-conflicts.conflicts.items ordered c.tables_or_conflicts.result c.tables_or_conflicts.ensures.ok c.tables_or_conflicts.ensures.failure
