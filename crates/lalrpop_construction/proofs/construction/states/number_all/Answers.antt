use Rattle.std.proofs.Common.{◌≡◌, ◌∙◌, ◌<◌, Contains, List, ap, length, ℕ, subst, sym}
use Rattle.std.proofs.lemmas.List.{length-map}
use Rattle.lalrpop_construction.proofs.Types.{State}
use Rattle.lalrpop_base.specs.Words.{NumbersAscend, items_by, kernels_by}
use Rattle.lalrpop_construction.specs.states.NumberedStates.{AreNumberedAs, IsMadeByNumber, finished_in}
use Rattle.lalrpop_construction.specs.declared.construction.numbered_state.NumberedState.{NumberedState}
use Rattle.lalrpop_construction.proofs.theory.conflicts.GrownConflicts.{States-of}
use Rattle.lalrpop_construction.proofs.theory.construction.Building.{Building-all}
use Rattle.lalrpop_construction.proofs.theory.states.ItemNumbers.{Items-numbered}
use Rattle.lalrpop_construction.proofs.theory.states.MadeByNumber.{As-more, Numbered-as}
use Rattle.lalrpop_construction.proofs.theory.construction.NumberedBuilding.{Fewer-left}
use Rattle.lalrpop_construction.proofs.construction.states.number_all.Goals as goal

pub loop-work-smaller : goal.loop-work-smaller
loop-work-smaller g c =
    let made = c.in_ok-add_state.ensures in
    Fewer-left _ _ _ _ g.met.L.Lookahead.same_by_meaning (kernels_by c.args.numbers.now.items.items c.add_state.new.kernels) c.add_state.new.states.items made.made.building c.loop-work.kernels.handed (made.counted c.if-branch.true)

pub numbered_state-requires-clause-known : goal.numbered_state-requires-clause-known
numbered_state-requires-clause-known g c =
    let n = c.args.numbers.now in
    let (state, grown, made) = c.in_ok-add_state.ensures.more c.if-branch.true in
    subst (λ (ks : List ℕ). (k : ℕ) → Contains ks k → k < length n.items.items) (sym c.deref.ensures.value)
    (Items-numbered n.items.items c.requires.numbers.items.ascend c.add_state.new.work.numbers.items state.items.vec.items made.items).known

pub numbered_state-requires-clause-ascend : goal.numbered_state-requires-clause-ascend
numbered_state-requires-clause-ascend g c =
    let (state, grown, made) = c.in_ok-add_state.ensures.more c.if-branch.true in
    subst (λ (es : List (ℕ × ℕ)). NumbersAscend es) (sym c.deref-in-loop-work.ensures.value) made.edges.ascend

pub loop-work-preserved : goal.loop-work-preserved
loop-work-preserved g c =
    let n = c.args.numbers.now in
    let (state, grown, made) = c.in_ok-add_state.ensures.more c.if-branch.true in
    let new : NumberedState = c.in_ok-numbered_state.field-0 in
    let own = c.in_ok-numbered_state.ensures in
    let items : new.items.items ≡ c.add_state.new.work.numbers.items = own.items ∙ c.deref.ensures.value in
    let edges : new.edges.items ≡ c.add_state.new.work.edges.items = own.edges ∙ c.deref-in-loop-work.ensures.value in
    let here = subst (λ (ks : List ℕ). IsMadeByNumber n ks new.edges.items state) (sym items) (subst (λ (es : List (ℕ × ℕ)). IsMadeByNumber n c.add_state.new.work.numbers.items es state) (sym edges) made) in
    let numbered = Numbered-as c.args.lr.now.construction.rules n c.requires.numbers state new here (own.reductions ∙ ap (finished_in n) (sym own.items)) in
    record {
      made = c.in_ok-add_state.ensures.made;
      numbered = subst (λ (states : List (State g.row.L.Denot)). AreNumberedAs n states c.push.new.self.items) (sym grown)
          (rw c.in_ok-push.ensures.items (As-more n c.loop-work.states.items state c.loop-work.list.items new c.loop-work.invariant.numbered numbered));
    }

pub returns-clause-states : goal.returns-clause-states
returns-clause-states g c =
    let items = c.args.numbers.now.items.items in
    let made = c.in_ok-add_state.ensures in
    let all = made.all c.if-branch.false ∙ sym (length-map c.add_state.new.kernels.list (items_by items)) in
    States-of g.L.Lookahead.meaning g.L.LookaheadBuild.begins g.L.LookaheadBuild.passes g.L.Lookahead.lists_conflicts c.args.lr.now.construction c.add_state.new.states.items (Building-all _ _ _ _ (kernels_by items c.add_state.new.kernels) c.add_state.new.states.items made.made.building all)
