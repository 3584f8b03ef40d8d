use Rattle.std.proofs.Common.{List, sym, subst, refl}
use Rattle.lalrpop_base.specs.Words.{Dotted, IsClosureBy, AreMoves, AreNumbered}
use Rattle.lalrpop_construction.proofs.theory.construction.Coherence.{Built-made, Reached-extends, Reached-led}
use Rattle.lalrpop_construction.proofs.construction.state.state_of.Goals as goal

pub transitions-requires-clause-known : goal.transitions-requires-clause-known
transitions-requires-clause-known g c = subst (AreNumbered c.args.numbers.now.items.items) (sym c.deref.ensures.value) c.requires.known

pub returns-clause-built : goal.returns-clause-built
returns-clause-built g c rules kernel closed =
    let t = rw c.deref.ensures.value at c.in_ok-shifts.ensures.transitions in
    let moves = subst (λ (is : List (Dotted g.row.L.Denot)). AreMoves is t.groups) (sym c.in_ok-items.ensures) t.moves in
    Built-made (IsClosureBy g.L.Lookahead.meaning g.L.LookaheadBuild.begins g.L.LookaheadBuild.passes rules) kernel c.in_ok-items.items.items t.groups _ c.args.number _ refl refl (rw c.deref-2.ensures.value at c.in_ok-reductions.ensures) closed moves t.lead

pub returns-clause-extends : goal.returns-clause-extends
returns-clause-extends g c rules are_items =
    let t = rw c.deref.ensures.value at c.in_ok-shifts.ensures.transitions in
    let moves = subst (λ (is : List (Dotted g.row.L.Denot)). AreMoves is t.groups) (sym c.in_ok-items.ensures) t.moves in
    Reached-extends g.L.Lookahead.meaning rules c.in_ok-items.items.items t.groups _ _ are_items moves t.reached

pub returns-clause-led : goal.returns-clause-led
returns-clause-led g c =
    let t = rw c.deref.ensures.value at c.in_ok-shifts.ensures.transitions in
    let moves = subst (λ (is : List (Dotted g.row.L.Denot)). AreMoves is t.groups) (sym c.in_ok-items.ensures) t.moves in
    Reached-led c.in_ok-items.items.items t.groups _ _ (record { index = record { 0 = c.args.number }; items = record { vec = c.in_ok-items.items }; shifts = c.in_ok-shifts.field-0.shifts; reductions = c.in_ok-reductions.reductions; gotos = c.in_ok-shifts.field-0.gotos }) moves t.lead t.reached

pub returns-clause-finished : goal.returns-clause-finished
returns-clause-finished g c = rw c.deref-2.ensures.value at c.in_ok-reductions.ensures
