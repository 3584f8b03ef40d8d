use Rattle.std.proofs.Common.{◌≡◌, ◌∙◌, ℕ, List, length, get_or, refl, sym, ap, subst, arith, true, false, Bool}
use Rattle.std.specs.Prelude.{slice_get, Some}
use Rattle.std.proofs.lemmas.Option.{get_or_from_slice_get, slice_get_within}
use Rattle.std.specs.declared.alloc.Global.{Global}
use Rattle.std.specs.declared.vec.Vec.{Vec}
use Rattle.lalrpop_follow_sets.specs.follow_sets.FollowWalks.{IsGoneOver, StepsThrough}
use Rattle.lalrpop_base.specs.Words.{AddsThose}
use Rattle.lalrpop_construction.specs.declared.construction.numbered_state.NumberedState.{NumberedState}
use Rattle.lalrpop_follow_sets.proofs.theory.follow_sets.FollowSteps.{kept_through, node_number, none_over, none_through, pushed_through, some_over}
use Rattle.lalrpop_collections.proofs.theory.lists.Places.{filled}
use Rattle.lalrpop_follow_sets.proofs.follow_sets.walk.step.Goals as goal
use Rattle.lalrpop_follow_sets.proofs.follow_sets.walk.step.Goals.{then-passes+in_ok-push, else-passes}

-- the transitions that are read are those of the state
edges_read : (edges : List (ℕ × ℕ)) (here read : NumberedState) → edges ≡ read.edges.items → here ≡ read → edges ≡ here.edges.items
edges_read edges here read e same = e ∙ ap (λ (n : NumberedState). n.edges.items) (sym same)

-- the transition that is read leads where the one that was found does
read_target : (edges list : List (ℕ × ℕ)) (place symbol target : ℕ) (read : ℕ × ℕ) → slice_get edges place ≡ Some (symbol, target) → edges ≡ list → read ≡ get_or list place read → target ≡ read.1
read_target edges list place symbol target read found same is =
    ap (λ (e : ℕ × ℕ). e.1) (sym (is ∙ ap (λ (l : List (ℕ × ℕ)). get_or l place read) (sym same) ∙ get_or_from_slice_get edges place (symbol, target) read found))

not_true : {b : Bool} → b ≡ false → b ≡ true → ⊥
not_true e f = cc

pub returns-in_default-clause-through : goal.returns-in_default-clause-through
returns-in_default-clause-through c = λ i at.
    none_through c.args.pass.now c.requires.pass c.args.state c.args.item c.args.symbol i at c.requires.behind c.requires.listed c.index-pass-state.result c.index-pass-state.is c.deref.result.now
    (edges_read c.deref.result.now c.index-pass-state.result _ c.deref.ensures.value c.index-pass-state.is) (c.in_default.ensures.none refl) c.args.ends.now.items

pub returns-in_default-clause-over : goal.returns-in_default-clause-over
returns-in_default-clause-over c = λ i at.
    none_over c.args.pass.now c.requires.pass c.args.state c.args.item c.args.symbol i at c.requires.behind c.requires.listed c.index-pass-state.result c.index-pass-state.is c.deref.result.now
    (edges_read c.deref.result.now c.index-pass-state.result _ c.deref.ensures.value c.index-pass-state.is) (c.in_default.ensures.none refl)

pub overflow_add-index : goal.overflow_add-index
overflow_add-index c =
    let i = filled c.args.pass.now.numbers.now.items.items c.args.item c.requires.known in
    let found = c.in-Some.ensures.found in
    let within = node_number c.args.pass.now c.requires.pass c.args.state c.args.item c.args.symbol i.0 i.1 c.requires.behind c.requires.listed c.index-pass-state.result c.index-pass-state.is c.deref.result.now
    (edges_read c.deref.result.now c.index-pass-state.result _ c.deref.ensures.value c.index-pass-state.is) c.in-Some.place found.0 found.1 ((c.passes.ensures i.0 i.1).0 c.if-passes.true) c.index.result.now c.index.ensures in
    let counted = c.args.pass.now.nodes.now.pairs.ok.0 in
    let room = c.args.pass.now.nodes.now.pairs.ok.1 in
    let small = c.args.pass.now.nodes.now.pairs.small in
    omega arith

pub index-requires-2 : goal.index-requires-2
index-requires-2 c =
    let found = c.in-Some.ensures.found in
    let within = slice_get_within c.deref.result.now c.in-Some.place (c.args.symbol, found.0) found.1 in
    let same = ap (λ (n : NumberedState). n.edges.len) c.index-pass-state.is in
    let is = ap length (edges_read c.deref.result.now c.index-pass-state.result _ c.deref.ensures.value c.index-pass-state.is) in
    let counted = c.index-pass-state.result.edges.ok.0 in
    omega arith

pub returns-clause-through : goal.returns-clause-through
returns-clause-through c = λ i at. elim c.if-passes.branch [
  | then-passes+in_ok-push w ↦
      let found = c.in-Some.ensures.found in
      pushed_through c.args.pass.now c.requires.pass c.args.state c.args.item c.args.symbol i at c.requires.behind c.requires.listed c.index-pass-state.result c.index-pass-state.is c.deref.result.now
      (edges_read c.deref.result.now c.index-pass-state.result _ c.deref.ensures.value c.index-pass-state.is) c.in-Some.place found.0 found.1 ((c.passes.ensures i at).0 w.if-passes.true) w.index.result.now w.index.ensures
      c.args.ends.now.items c.if-passes.ends.items (ap (λ (v : Vec ℕ Global). v.items) w.ends-is ∙ w.in_ok-push.ensures.items)
  | else-passes w ↦
      subst (λ (v : Vec ℕ Global). AddsThose (StepsThrough c.args.pass.now c.args.state i) c.args.ends.now.items v.items) (sym w.ends-is)
      (kept_through c.args.pass.now c.requires.pass c.args.state c.args.item c.args.symbol i at c.requires.behind (λ h. not_true w.if-passes.false ((c.passes.ensures i at).1 h)) c.args.ends.now.items)
]

pub returns-clause-over : goal.returns-clause-over
returns-clause-over c = λ i at.
    let found = c.in-Some.ensures.found in
    let edges = c.deref.result.now in
    let gone = some_over c.args.pass.now c.requires.pass c.args.state c.args.item c.args.symbol i at c.requires.behind c.requires.listed c.index-pass-state.result c.index-pass-state.is edges
    (edges_read edges c.index-pass-state.result _ c.deref.ensures.value c.index-pass-state.is) c.in-Some.place found.0 found.1 in
    let target : found.0 ≡ c.index-2.result.now.1 = read_target edges _ c.in-Some.place c.args.symbol found.0 c.index-2.result.now found.1 c.deref.ensures.value c.index-2.ensures in
    subst (λ (t : ℕ). IsGoneOver c.args.pass.now c.args.state i (Some t)) target gone
