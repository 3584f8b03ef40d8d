use Rattle.std.proofs.Common.{◌≡◌, ℕ, rules, subst}
use Rattle.std.specs.Prelude.{Contains}
use Rattle.lalrpop_lanes.proofs.Types.{NonterminalString}
use Rattle.lalrpop_base.specs.Words.{rules_of}
use Rattle.lalrpop_collections.specs.lists.CheckSets.{IsAdded}
use Rattle.lalrpop_lanes.specs.Words.{GivesBit, GivesCell, GivesSuccessor}
use Rattle.lalrpop_construction.specs.Words.{places_in}
use Rattle.lalrpop_lanes.proofs.theory.lanes.Expanded.{Expanded-kept, Expanded-known, Expanded-new}
use Rattle.lalrpop_lanes.proofs.theory.lanes.GainsSome.{GainsSome-all, on_err}
use Rattle.lalrpop_lanes.proofs.lane_table.lane.trace_back.step.Goals as goal

-- ---- over edges
pub returns-then-is_past_start-clause-gains : goal.returns-then-is_past_start-clause-gains
returns-then-is_past_start-clause-gains g c = c.in_ok-unshift.ensures.gains c.args.conflict.index

pub returns-in_err-unshift-clause-part : goal.returns-in_err-unshift-clause-part
returns-in_err-unshift-clause-part g c = on_err _ (c.in_err-unshift.ensures.part c.args.conflict.index)

pub returns-then-is_past_start-clause-expanded : goal.returns-then-is_past_start-clause-expanded
returns-then-is_past_start-clause-expanded g c =
    let r = rules_of c.args.automaton.now.grammar.now in
    let s = places_in c.args.automaton.now.states.now in
    let start = c.args.automaton.now.start.now in
    let place = c.args.place.now in
    let gained = GainsSome-all c.args.conflict.index (GivesCell r start s place) (GivesBit r start s place) (GivesSuccessor r start s place) c.args.table.now c.unshift.new.table (c.in_ok-unshift.ensures.gains c.args.conflict.index) in
    Expanded-kept c.args.automaton.now c.args.conflict.index c.args.table.now c.unshift.new.table c.args.walk.now c.unshift.new.walk gained.kept c.in_ok-unshift.ensures.visits.kept c.args.expanded.now.keys c.requires.expanded

-- ---- from the start of a production
pub returns-then-not-branch-clause-gains : goal.returns-then-not-branch-clause-gains
returns-then-not-branch-clause-gains g c =
    let begun : c.args.place.now.item.index ≡ 0 = search rules in
    let told = rw c.if-not-branch.true at c.in_ok-add_key.ensures.told in
    (c.requires.expanded c.args.place.now begun (subst (λ (x : ℕ × NonterminalString). Contains c.args.expanded.now.keys x) c.at.ensures told.1)).gains

pub returns-then-not-branch-clause-visits : goal.returns-then-not-branch-clause-visits
returns-then-not-branch-clause-visits g c =
    let begun : c.args.place.now.item.index ≡ 0 = search rules in
    let told = rw c.if-not-branch.true at c.in_ok-add_key.ensures.told in
    (c.requires.expanded c.args.place.now begun (subst (λ (x : ℕ × NonterminalString). Contains c.args.expanded.now.keys x) c.at.ensures told.1)).visits

pub returns-then-not-branch-clause-expanded : goal.returns-then-not-branch-clause-expanded
returns-then-not-branch-clause-expanded g c =
    let begun : c.args.place.now.item.index ≡ 0 = search rules in
    let told = rw c.if-not-branch.true at c.in_ok-add_key.ensures.told in
    let added = subst (λ (x : ℕ × NonterminalString). IsAdded x c.args.expanded.now.keys c.add_key.new.set.keys) c.at.ensures c.in_ok-add_key.ensures.added in
    let known = subst (λ (x : ℕ × NonterminalString). Contains c.args.expanded.now.keys x) c.at.ensures told.1 in
    Expanded-known c.args.automaton.now c.args.conflict.index c.args.place.now begun c.args.expanded.now.keys c.add_key.new.set.keys added known c.args.table.now c.args.walk.now c.requires.expanded

pub returns-clause-expanded : goal.returns-clause-expanded
returns-clause-expanded g c =
    let begun : c.args.place.now.item.index ≡ 0 = search rules in
    let added = subst (λ (x : ℕ × NonterminalString). IsAdded x c.args.expanded.now.keys c.add_key.new.set.keys) c.at.ensures c.in_ok-add_key.ensures.added in
    Expanded-new c.args.automaton.now c.args.conflict.index c.args.place.now begun c.args.expanded.now.keys c.add_key.new.set.keys added c.args.table.now c.unepsilon.new.table c.args.walk.now c.unepsilon.new.walk c.in_ok-unepsilon.ensures.gains c.in_ok-unepsilon.ensures.visits c.requires.expanded
