use Rattle.std.proofs.Common.{◌≡◌, ◌<◌, ◌∙◌, ℕ, length, List, Some, ap, sym, subst}
use Rattle.std.specs.Prelude.{slice_get, Contains}
use Rattle.lalrpop_follow_sets.proofs.Types.{Symbol}
use Rattle.lalrpop_follow_sets.specs.follow_sets.FollowNodes.{AreNodes}
use Rattle.lalrpop_construction.specs.states.NumberedStates.{transitions_at}
use Rattle.lalrpop_follow_sets.specs.declared.follow_sets.nodes.Nodes.{Nodes}
use Rattle.lalrpop_construction.specs.declared.construction.numbered_state.NumberedState.{NumberedState as ByNumbers}
use Rattle.lalrpop_collections.proofs.theory.lists.Places.{contains_at, slice_get_at}
use Rattle.lalrpop_follow_sets.proofs.theory.follow_sets.StartNode.{Nodes-more, Nodes-same, of_some}
use Rattle.lalrpop_follow_sets.proofs.theory.follow_sets.TransitionNodes.{edges_are}
use Rattle.lalrpop_follow_sets.proofs.follow_sets.nodes.nodes_of.Goals as goal
use Rattle.lalrpop_follow_sets.proofs.follow_sets.nodes.nodes_of.Goals.{then-is_none+in_ok-push, else-is_none}

pub returns : goal.returns
returns c =
    let symbols : List Symbol = c.args.symbols.now in
    let states : List ByNumbers = c.args.states.now in
    let first = c.args.start in
    let state : ByNumbers = c.index-states-0.result in
    let nodes : Nodes = c.in_ok-nodes.nodes in
    let at : slice_get states 0 ≡ Some state = slice_get_at states 0 state c.requires.some c.index-states-0.is in
    let edges : c.deref.result.now ≡ transitions_at states 0 = c.deref.ensures.value ∙ ap (λ (n : ByNumbers). n.edges.items) (sym c.index-states-0.is) ∙ sym (edges_are states 0 state at) in
    elim c.if-is_none.branch [
      | then-is_none+in_ok-push w ↦
          let none : (target : ℕ) → Contains (transitions_at states 0) (first, target) → ⊥ = subst (λ (es : List (ℕ × ℕ)). (target : ℕ) → Contains es (first, target) → ⊥) edges (c.place_of.ensures.none w.if-is_none.ensures) in
          Nodes-more symbols first states nodes c.in_ok-nodes.ensures none c.if-is_none.nodes
          (ap (λ (n : Nodes). n.firsts.items) w.nodes-is) (ap (λ (n : Nodes). n.pairs.items) w.nodes-is ∙ w.in_ok-push.ensures.items)
      | else-is_none w ↦
          let found = of_some (λ (place : ℕ). (target : ℕ) × (slice_get c.deref.result.now place ≡ Some (first, target))) c.place_of.result w.if-is_none.ensures c.place_of.ensures.found in
          let edge : slice_get (transitions_at states 0) found.0 ≡ Some (first, found.1.0) = ap (λ (es : List (ℕ × ℕ)). slice_get es found.0) (sym edges) ∙ found.1.1 in
          let known : first < length symbols = c.requires.named 0 first found.1.0 state at (subst (λ (es : List (ℕ × ℕ)). Contains es (first, found.1.0)) (edges_are states 0 state at) (contains_at (transitions_at states 0) (first, found.1.0) found.0 edge)) in
          subst (AreNodes symbols first states) (sym w.nodes-is) (Nodes-same symbols first states nodes c.in_ok-nodes.ensures found.0 found.1.0 edge c.requires.start known)
    ]
