use Rattle.std.proofs.Common.{◌≡◌, ◌∙◌, ◌∷◌, [], ℕ, List, ap, map, refl, subst, sym, Some}
use Rattle.std.proofs.lemmas.List.{map-append}
use Rattle.lalrpop_base.specs.Words.{StateEdge}
use Rattle.lalrpop_construction.specs.states.NumberedStates.{AddsEdges, IsKeyAt}
use Rattle.lalrpop_construction.proofs.theory.states.EdgesByNumber.{Edges-more, Keys-more, Partly-all, Partly-more}
use Rattle.lalrpop_check.proofs.Types.{StateIndex}
use Rattle.lalrpop_check.proofs.check.numbered_states.transitions.take_edges.Goals as goal

pub loop-name-init : goal.loop-name-init
loop-name-init g c =
    let same : c.into_iter-name-iterator.result ≡ c.args.targets.now.entries = cc in
    record { partly = record { done = []; whole = same; adds = λ differ entries before. before }; keys = λ h. h }

pub loop-name-preserved : goal.loop-name-preserved
loop-name-preserved g c =
    let symbols = c.args.symbols.now in
    let old = c.loop-name.edges.items in
    let new = c.push.new.self.items in
    let K : Type 0 = g.row.K.Denot in
    let edge : K × StateIndex → StateEdge = λ e. (g.K.Name.symbol e.0, e.1) in
    let start = c.args.edges.now.items in
    let name = c.in-Some.name.now in
    let target = c.in-Some.target.now in
    let number = c.in-Some-expected_at.number in
    let at = c.if-not-is_number_of_symbol.ensures refl ∙ ap Some c.as_symbol.ensures in
    let here = subst (λ (place : ℕ). IsKeyAt c.args.expected.now place c.in-Some-expected_at.number) (c.len.ensures ∙ c.loop-name.edges.ok.0) c.in-Some-expected_at.ensures in
    record {
      partly = Partly-more (λ (done : List (K × StateIndex)). AddsEdges symbols start old (map edge done)) (λ (done : List (K × StateIndex)). AddsEdges symbols start new (map edge done)) _ _ _ _ c.in-Some.ensures.steps c.loop-name.invariant.partly
          (λ done adds. subst (λ (es : List StateEdge). AddsEdges symbols start new es) (sym (map-append edge done ((name, target) ∷ []))) (Edges-more symbols start old new (map edge done) (g.K.Name.symbol name) number target.0 at c.in_ok-push.ensures.items adds));
      keys = λ h. rw c.in_ok-push.ensures.items (Keys-more old c.args.expected.now c.in-Some-expected_at.number _ here (c.loop-name.invariant.keys h));
    }

pub returns-clause-taken : goal.returns-clause-taken
returns-clause-taken g c = λ yes. Partly-all _ _ _ c.in-None.ensures.steps.0 c.loop-name.invariant.partly
