use Rattle.std.proofs.Common.{◌∙◌, ap, subst, sym}
use Rattle.std.proofs.lemmas.Result.{IfOk-weaker, IfErr-weaker}
use Rattle.lalrpop_construction.proofs.Types.{Nil}
use Rattle.lalrpop_construction.specs.Words.{StopsFor, Construction, Settings, AreTablesFor, FailsFor}
use Rattle.lalrpop_collections.proofs.theory.lists.BothFacts.{MatchResult-both, IfErr-given}
use Rattle.lalrpop_construction.proofs.theory.canonical.Lr0States.{nothing, never, stopped, Lists, Tables-lr0, Fails-lr0, Tables-free, Stops-listed}
use Rattle.lalrpop_construction.proofs.theory.early_stop.StoppedLr0.{stopped_after_lr0}
use Rattle.lalrpop_construction.proofs.construction.lr.Lr+Nil.build_lr0_states.Goals as goal

pub returns-clause-states : goal.returns-clause-states
returns-clause-states c =
    let g = c.self.inside.grammar.now in
    let start = c.self.inside.start in
    let lookahead = c.self.inside.lookahead in
    let well = c.self.invariant.well_formed in
    let own = c.self.invariant.own in
    let r = c.build_states.result in
    let same = sym (ap (λ (s : Settings Nil). s.construction) c.self.view_is) in
    let stop = sym (ap (λ (s : Settings Nil). s.stop_after) c.self.view_is) in
    let failure = IfErr-given r _ c.build_states.ensures.failure in
    rw (← c.self.view_is) (MatchResult-both r _ _
    (IfOk-weaker r _ _ (λ tables t. Tables-lr0 g start lookahead well own tables.items (subst (λ (k : Construction Nil). AreTablesFor nothing never stopped Lists k tables.items) same t)) c.build_states.ensures.tables)
    (IfErr-weaker r _ _ (λ error f none. Fails-lr0 g start lookahead well own error (subst (λ (k : Construction Nil). FailsFor nothing never stopped Lists k error) same (f (stop ∙ none)))) failure))

pub returns-clause-stopped : goal.returns-clause-stopped
returns-clause-stopped c =
    let same = sym c.self.view_is in
    rw (← c.self.view_is) (IfErr-weaker c.build_states.result _ _ (λ error f. stopped_after_lr0 c.self.inside.grammar.now c.self.inside.start c.self.inside.lookahead c.self.invariant.well_formed c.self.invariant.own c.self.inside.stop_after error (subst (λ (s : Settings Nil). StopsFor nothing never stopped Lists s error) same f)) c.build_states.ensures.stopped)

pub returns-clause-free : goal.returns-clause-free
returns-clause-free c = IfOk-weaker c.build_states.result _ _ (λ tables t. Tables-free c.args.self.construction tables.items t) c.build_states.ensures.tables

pub returns-clause-conflicts : goal.returns-clause-conflicts
returns-clause-conflicts c = IfErr-weaker c.build_states.result _ _ (λ error f. Stops-listed c.args.self error f) c.build_states.ensures.stopped
