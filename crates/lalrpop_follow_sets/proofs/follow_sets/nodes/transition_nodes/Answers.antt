use Rattle.std.proofs.Common.{◌≡◌, ◌++◌, ◌∙◌, ℕ, length, ◌+◌, List, [], ◌∷◌, Some, arith, ap, sym, subst, take, Contains}
use Rattle.std.specs.Prelude.{slice_get}
use Rattle.std.proofs.lemmas.List.{length-take-le, take_all, take_more}
use Rattle.lalrpop_follow_sets.specs.follow_sets.FollowNodes.{nonterminals_of}
use Rattle.lalrpop_construction.specs.declared.construction.numbered_state.NumberedState.{NumberedState as ByNumbers}
use Rattle.lalrpop_collections.proofs.theory.lists.Places.{slice_get_at}
use Rattle.lalrpop_follow_sets.proofs.theory.follow_sets.TransitionNodes.{HaveNodes, Have-more, Have-none}
use Rattle.lalrpop_follow_sets.proofs.follow_sets.nodes.transition_nodes.Goals as goal

pub loop-state-init : goal.loop-state-init
loop-state-init c =
    let symbols = c.args.symbols.now in
    subst (λ (firsts : List ℕ). HaveNodes symbols [] firsts c.new-pairs.result.items) (sym c.new-firsts.ensures.items)
    (subst (HaveNodes symbols [] []) (sym c.new-pairs.ensures.items) (Have-none symbols))

pub add_nodes-requires : goal.add_nodes-requires
add_nodes-requires c =
    let states : List ByNumbers = c.args.states.now in
    let s = c.loop-state.state in
    let state : ByNumbers = c.index-states-state.result in
    let at : slice_get states s ≡ Some state = slice_get_at states s state c.loop-state-test.true c.index-states-state.is in
    let edges : c.deref.result.now ≡ state.edges.items = c.deref.ensures.value ∙ ap (λ (n : ByNumbers). n.edges.items) (sym c.index-states-state.is) in
    λ x target among. c.requires.named s x target state at (subst (λ (es : List (ℕ × ℕ)). Contains es (x, target)) edges among)

pub loop-state-preserved : goal.loop-state-preserved
loop-state-preserved c =
    let symbols = c.args.symbols.now in
    let states : List ByNumbers = c.args.states.now in
    let s = c.loop-state.state in
    let state : ByNumbers = c.index-states-state.result in
    let firsts : List ℕ = c.loop-state.firsts.items in
    let pairs : List (ℕ × ℕ) = c.loop-state.pairs.items in
    let at : slice_get states s ≡ Some state = slice_get_at states s state c.loop-state-test.true c.index-states-state.is in
    let edges : c.deref.result.now ≡ state.edges.items = c.deref.ensures.value ∙ ap (λ (n : ByNumbers). n.edges.items) (sym c.index-states-state.is) in
    let more : take (s + 1) states ≡ take s states ++ state ∷ [] = take_more states s state c.loop-state-test.true ∙ ap (λ (j : ByNumbers). take s states ++ j ∷ []) (sym c.index-states-state.is) in
    let count : length (take s states) ≡ s = length-take-le s states (let l = c.loop-state-test.true in omega arith) in
    let first : c.push.new.self.items ≡ firsts ++ length pairs ∷ [] = c.in_ok-push.ensures.items ∙ ap (λ (n : ℕ). firsts ++ n ∷ []) (let e = c.len.ensures in omega arith) in
    let pair : c.add_nodes.new.pairs.items ≡ pairs ++ nonterminals_of symbols (length (take s states)) state.edges.items = c.in_ok-add_nodes.ensures ∙ ap (λ (es : List (ℕ × ℕ)). pairs ++ nonterminals_of symbols s es) edges ∙ ap (λ (n : ℕ). pairs ++ nonterminals_of symbols n state.edges.items) (sym count) in
    let made = Have-more symbols c.requires.symbols (take s states) state firsts pairs c.loop-state.invariant in
    subst (λ (done : List ByNumbers). HaveNodes symbols done c.push.new.self.items c.add_nodes.new.pairs.items) (sym more)
    (subst (λ (ns : List ℕ). HaveNodes symbols (take s states ++ state ∷ []) ns c.add_nodes.new.pairs.items) (sym first)
    (subst (HaveNodes symbols (take s states ++ state ∷ []) (firsts ++ length pairs ∷ [])) (sym pair) made))

pub returns : goal.returns
returns c =
    let all = subst (λ (done : List ByNumbers). HaveNodes c.args.symbols.now done c.loop-state.firsts.items c.loop-state.pairs.items) (take_all c.loop-state.state c.args.states.now (omega arith)) c.loop-state.invariant in
    record { counted = all.counted; here = all.here; from = all.from; differ = all.differ }
