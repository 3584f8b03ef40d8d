-- The nodes of transitions, and the node of the start symbol in state 0.
use Rattle.std.proofs.Common.{◌≡◌, ◌∙◌, ◌⊎◌, inl, inr, ℕ, ◌+◌, ◌<◌, List, [], ◌∷◌, ◌++◌, length, sym, ap, subst, arith, true}
use Rattle.std.specs.Prelude.{slice_get, get_or, Option, Some, None, Contains, IfSome}
use Rattle.std.specs.Option.{is_some}
use Rattle.std.proofs.lemmas.Option.{slice_get_within}
use Rattle.std.proofs.lemmas.List.Elements.{Contains-push}
use Rattle.lalrpop_base.specs.Words.{AllDiffer}
use Rattle.lalrpop_follow_sets.proofs.Types.{NonterminalString, Symbol}
use Rattle.lalrpop_grammar.specs.declared.repr.Symbol.TheVariants.{Nonterminal}
use Rattle.lalrpop_follow_sets.specs.follow_sets.FollowNodes.{AreNodes, AreTransitionNodes, IsNonterminalOrCount, IsTransitionNode}
use Rattle.lalrpop_construction.specs.states.NumberedStates.{transitions_at}
use Rattle.lalrpop_follow_sets.specs.declared.follow_sets.nodes.Nodes.{Nodes}
use Rattle.lalrpop_construction.specs.declared.construction.numbered_state.NumberedState.{NumberedState}
use Rattle.lalrpop_collections.proofs.theory.lists.Places.{contains_at, push_cases, slice_get-longer}

-- if an option is some, its value has the property
pub of_some : {X : Type 0} (P : X → Type 0) (o : Option X) → is_some o ≡ true → IfSome o P → (x : X) × P x
of_some P (Some x) is h = (x, h)
of_some P None is h = cc

module _ (symbols : List Symbol) (first : ℕ) (states : List NumberedState) (nodes : Nodes) (made : AreTransitionNodes symbols states nodes) where
  abbrev pairs : List (ℕ × ℕ)
  pairs = nodes.pairs.items

  -- if state 0 has a transition over the start symbol, no node is added
  pub Nodes-same : (place target : ℕ) → slice_get (transitions_at states 0) place ≡ Some (first, target) → IsNonterminalOrCount symbols first → first < length symbols → AreNodes symbols first states nodes
  Nodes-same place target edge is known = record {
    counted = made.counted;
    here = made.here;
    from = λ node s x at. inr (made.from node s x at);
    begun = elim is [
      | inl a ↦ contains_at pairs (0, first) (get_or nodes.firsts.items 0 0 + place) (made.here 0 place first target a.0 edge a.1)
      | inr count ↦ absurd (omega arith)
    ];
    differ = made.differ;
  }

  -- if state 0 has none, the node of the start symbol comes last
  module _ (none : (target : ℕ) → Contains (transitions_at states 0) (first, target) → ⊥) (new : Nodes) (same : new.firsts.items ≡ nodes.firsts.items) (more : new.pairs.items ≡ pairs ++ (0, first) ∷ []) where
    -- the nodes of transitions stay at their places
    longer : (s place x target : ℕ) (a : NonterminalString) → slice_get (transitions_at states s) place ≡ Some (x, target) → slice_get symbols x ≡ Some (Nonterminal a) → slice_get new.pairs.items (get_or new.firsts.items s 0 + place) ≡ Some (s, x)
    longer s place x target a edge symbol =
        let at = get_or nodes.firsts.items s 0 + place in
        ap (λ (fs : List ℕ). slice_get new.pairs.items (get_or fs s 0 + place)) same ∙ ap (λ (ps : List (ℕ × ℕ)). slice_get ps at) more ∙ slice_get-longer pairs ((0, first) ∷ []) at (s, x) (made.here s place x target a edge symbol)

    -- a node is one of those of transitions, or the new one
    cases : (node : ℕ) (p : ℕ × ℕ) → slice_get new.pairs.items node ≡ Some p → (slice_get pairs node ≡ Some p) ⊎ ((node ≡ length pairs) × ((0, first) ≡ p))
    cases node p at = push_cases pairs (0, first) node p (ap (λ (ps : List (ℕ × ℕ)). slice_get ps node) (sym more) ∙ at)

    from : (node s x : ℕ) → slice_get new.pairs.items node ≡ Some (s, x) → ((s ≡ 0) × (x ≡ first)) ⊎ IsTransitionNode symbols states new.firsts.items node s x
    from node s x at = elim (cases node (s, x) at) [
      | inl was ↦ inr (subst (λ (fs : List ℕ). IsTransitionNode symbols states fs node s x) (sym same) (made.from node s x was))
      | inr end ↦ inl (ap (λ (p : ℕ × ℕ). p.0) (sym end.1), ap (λ (p : ℕ × ℕ). p.1) (sym end.1))
    ]

    -- the new node differs from the others
    differ : AllDiffer new.pairs.items
    differ i j p l at_i at_j = elim (cases i p at_i) [
      | inl was ↦ elim (cases j p at_j) [
        | inl too ↦ made.differ i j p l was too
        | inr end ↦
            let n = made.from i 0 first (was ∙ ap Some (sym end.1)) in
            none n.target (contains_at (transitions_at states 0) (first, n.target) n.place n.edge)
      ]
      | inr end ↦
          let e = end.0 in
          elim (cases j p at_j) [
            | inl too ↦ let within = slice_get_within pairs j p too in omega arith
            | inr last ↦ let f = last.0 in omega arith
          ]
    ]

    pub Nodes-more : AreNodes symbols first states new
    Nodes-more = record {
      counted = ap length same ∙ made.counted;
      here = longer;
      from = from;
      begun = subst (λ (ps : List (ℕ × ℕ)). Contains ps (0, first)) (sym more) (Contains-push pairs (0, first));
      differ = differ;
    }
