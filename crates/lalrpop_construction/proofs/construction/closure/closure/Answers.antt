use Rattle.std.proofs.Common.{ℕ, List, sym, subst}
use Rattle.std.specs.Prelude.{Contains}
use Rattle.std.proofs.lemmas.Result.{IfOk-weaker}
use Rattle.lalrpop_base.specs.Words.{AreNumbered, items_by, IsClosureBy, readings}
use Rattle.lalrpop_numbers.specs.declared.numbers.numbered.Numbered.{Numbered}
use Rattle.lalrpop_collections.proofs.theory.lists.Gathering.{Gathers-none}
use Rattle.lalrpop_construction.proofs.theory.closures.Rising.{Gathers-rising, numbers_rise}
use Rattle.lalrpop_construction.proofs.theory.closures.PropagatedItems.{number_known}
use Rattle.lalrpop_construction.proofs.theory.closures.Unfolded.{Closure-of}
use Rattle.lalrpop_construction.proofs.construction.closure.closure.Goals as goal

pub gather_nonterminals-requires : goal.gather_nonterminals-requires
gather_nonterminals-requires g c = λ e h. number_known c.args.lr.now.construction.rules c.args.numbers.now c.requires.numbers e.0 (c.in_ok-propagate_all.ensures.known e (subst (λ (es : List (ℕ × g.row.L.Denot)). Contains (readings g.L.Lookahead.meaning es) e) c.in_ok-shared.ensures.same h))

pub returns-clause-known : goal.returns-clause-known
returns-clause-known g c =
    let entries = c.in_ok-entries.entries.items in
    let rise = c.in_ok-entries.ensures.rising in
    let first = rw c.clear.ensures at c.in_ok-gather_kernel.ensures in
    let gathers = (rw c.in_ok-shared.ensures.same at c.in_ok-gather_nonterminals.ensures) _ (first _ Gathers-none) in
    let all = Gathers-rising entries rise g.L.Lookahead.meaning _ _ c.in_ok-entries.ensures.same gathers in
    IfOk-weaker c.items_of.result _ _ (λ list h.
    subst (AreNumbered c.args.numbers.now.items.items) (sym h) (Closure-of g.L.Lookahead.meaning g.L.LookaheadBuild.begins g.L.LookaheadBuild.passes c.args.lr.now.construction.rules c.args.numbers.now c.requires.numbers c.args.kernel.now c.requires.known c.requires.kernel _ c.in_ok-propagate_all.ensures entries all (numbers_rise entries rise)).0)
    c.items_of.ensures

pub returns-clause-closed : goal.returns-clause-closed
returns-clause-closed g c =
    let rules = c.args.lr.now.construction.rules in
    let items = c.args.numbers.now.items.items in
    let entries = c.in_ok-entries.entries.items in
    let rise = c.in_ok-entries.ensures.rising in
    let first = rw c.clear.ensures at c.in_ok-gather_kernel.ensures in
    let gathers = (rw c.in_ok-shared.ensures.same at c.in_ok-gather_nonterminals.ensures) _ (first _ Gathers-none) in
    let all = Gathers-rising entries rise g.L.Lookahead.meaning _ _ c.in_ok-entries.ensures.same gathers in
    IfOk-weaker c.items_of.result _ _ (λ list h.
    subst (λ (xs : List (Numbered g.row.L.Denot)). IsClosureBy g.L.Lookahead.meaning g.L.LookaheadBuild.begins g.L.LookaheadBuild.passes rules (items_by items c.args.kernel.now) (items_by items xs)) (sym h)
    (Closure-of g.L.Lookahead.meaning g.L.LookaheadBuild.begins g.L.LookaheadBuild.passes rules c.args.numbers.now c.requires.numbers c.args.kernel.now c.requires.known c.requires.kernel _ c.in_ok-propagate_all.ensures entries all (numbers_rise entries rise)).1)
    c.items_of.ensures
