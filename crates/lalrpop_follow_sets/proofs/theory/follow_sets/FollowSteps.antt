-- A step of a walk over a right side: over the symbol after a dot, from a state to a state.
use Rattle.std.proofs.Common.{◌≡◌, ◌∙◌, ◌↔◌, inl, inr, ℕ, ◌+◌, ◌<◌, List, [], ◌∷◌, ◌++◌, length, get_or, refl, sym, ap, subst, arith, false}
use Rattle.std.specs.Prelude.{slice_get, Option, Some, None, Contains, IsTrue}
use Rattle.std.proofs.lemmas.Option.{get_or_from_slice_get}
use Rattle.lalrpop_base.specs.Words.{Dotted, leads, rules_of, IsNullable, HasSuffix, IsSuffixOf, AddsThose, IsNumberBehind}
use Rattle.lalrpop_follow_sets.specs.Words.{IsFollowNode}
use Rattle.lalrpop_follow_sets.proofs.Types.{Nil, NonterminalString, Symbol}
use Rattle.lalrpop_grammar.specs.declared.repr.Symbol.TheVariants.{Nonterminal}
use Rattle.lalrpop_follow_sets.specs.follow_sets.FollowNodes.{IsPass, nodes_of}
use Rattle.lalrpop_follow_sets.specs.follow_sets.FollowWalks.{HasNullableRest, IsGoneOver, StepsThrough}
use Rattle.lalrpop_construction.specs.states.SamePlaces.{places_in}
use Rattle.lalrpop_construction.specs.states.NumberedStates.{IsNumberedState, listed_transitions, transitions_at}
use Rattle.lalrpop_construction.specs.declared.construction.numbered_state.NumberedState.{NumberedState}
use Rattle.lalrpop_follow_sets.specs.declared.follow_sets.pass.Pass.{Pass}
use Rattle.lalrpop_numbers.specs.declared.numbers.suffixes.Suffix.{Suffix}
use Rattle.lalrpop_grammar.proofs.theory.grammars.SymbolLists.{same_nonterminal}
use Rattle.lalrpop_states.proofs.theory.closures.Closing.{split_drop}
use Rattle.lalrpop_numbers.proofs.theory.numbers.DottedProductions.{those_none}
use Rattle.lalrpop_collections.proofs.theory.lists.Members.{contains_head}
use Rattle.lalrpop_follow_sets.proofs.theory.follow_sets.FollowNodes.{node_within, one_node, transition_node}
use Rattle.lalrpop_collections.proofs.theory.lists.Places.{contains_at, same_some, slice_get_at}
use Rattle.lalrpop_grammar.proofs.theory.grammars.Grammars.{same_after}
use Rattle.std.proofs.lemmas.List.Elements.{Contains-append_left, Contains-append_right, Contains-push_cases}

-- one value was appended to a list
pub those_pushed : {X : Type 0} (Such : X → Type 0) (old : List X) (key : X) → Such key → ((x : X) → Such x → key ≡ x) → AddsThose Such old (old ++ key ∷ [])
those_pushed {X} Such old key is only x = (
  λ c. elim (Contains-push_cases old key x c) [
    | inl was ↦ inl was
    | inr e ↦ inr (subst Such e is)
  ],
  λ e. elim e [
    | inl was ↦ Contains-append_left old (key ∷ []) x was
    | inr s ↦ Contains-append_right old (key ∷ []) x (subst (Contains (key ∷ [])) (only x s) (contains_head key []))
  ],
)

-- an option without a value is none
no_some : {X : Type 0} (o : Option X) → ((x : X) → o ≡ Some x → ⊥) → o ≡ None
no_some None h = refl
no_some (Some x) h = absurd (h x refl)

-- ---- whether a rest is nullable
-- if a nonterminal is after the dot, the flag of its rest says whether this is nullable
pub rest_tells : (pass : Pass) (i : Dotted Nil) (rest : Suffix) → IsSuffixOf (rules_of pass.grammar.now) i (Some rest) → IsTrue rest.nullable ↔ HasNullableRest pass i
rest_tells pass i rest (a, after, has, is) = (
  λ t. (a, after, has, (is.nullable).0 t),
  λ h. (is.nullable).1 (subst (IsNullable (rules_of pass.grammar.now).productions) (same_after h.0 a h.1 after (sym h.2 ∙ has)) h.3),
)

-- if no nonterminal is after the dot, no rest is nullable
pub no_rest_tells : (pass : Pass) (i : Dotted Nil) → IsSuffixOf (rules_of pass.grammar.now) i None → IsTrue false ↔ HasNullableRest pass i
no_rest_tells pass i none = (λ t. cc, λ h. absurd (none h.0 h.1 h.2))

-- ---- a step
-- an entry within a list is the same whatever the default is
read_or : (xs : List ℕ) (i r d : ℕ) → i < length xs → r ≡ get_or xs i r → r ≡ get_or xs i d
read_or xs i r d l e = sym (get_or_from_slice_get xs i r d (slice_get_at xs i r l e))

module _ (pass : Pass) (ok : IsPass pass) (state k x : ℕ) (i : Dotted Nil) (at : slice_get pass.numbers.now.items.items k ≡ Some i) (behind : slice_get pass.numbers.now.behind.items k ≡ Some (Some x)) where
  -- the symbol after the dot
  symbol : IsNumberBehind pass.numbers.now.symbols.items i (Some x)
  symbol = ok.numbers.behind k i (Some x) at behind

  -- the symbol alone
  abbrev s : Symbol
  s = symbol.0

  -- a symbol after the dot is this one
  is_behind : (t : Symbol) → slice_get i.production.symbols i.index ≡ Some t → s ≡ t
  is_behind t at_t = same_some s t (sym symbol.2 ∙ at_t)

  -- a nonterminal with a rest after the dot is this symbol
  name_behind : (a : NonterminalString) (after : List Symbol) → HasSuffix i a after → s ≡ Nonterminal a
  name_behind a after h = is_behind (Nonterminal a) (split_drop i.index i.production.symbols (Nonterminal a) after h)

  module _ (listed : state < length pass.states.now) (here : NumberedState) (read : here ≡ get_or pass.numbered.now state here) where
    -- the state that is read is the one at its number
    there : slice_get pass.numbered.now state ≡ Some here
    there = slice_get_at pass.numbered.now state here (let e = ok.numbered.counted in omega arith) read

    -- the state that is read has the transitions of the state, by number
    numbered : IsNumberedState pass.numbers.now (places_in pass.states.now state) here
    numbered = ok.numbered.each state here there

    -- a step through a node goes by a transition
    by_transition : (n : ℕ) (st : StepsThrough pass state i n) → Contains here.edges.items (x, st.target)
    by_transition n st = (numbered.edges x st.target s symbol.1).1 (subst (λ (t : Symbol). leads (places_in pass.states.now state) t ≡ Some st.target) (sym (name_behind st.name st.after st.behind)) st.edge)

    module _ (edges : List (ℕ × ℕ)) (is : edges ≡ here.edges.items) where
      module _ (none : (target : ℕ) → ¬ Contains edges (x, target)) where
        -- the state that is read has no transition over the symbol
        out : (target : ℕ) → Contains here.edges.items (x, target) → ⊥
        out target c = none target (subst (λ (l : List (ℕ × ℕ)). Contains l (x, target)) (sym is) c)

        -- without a transition the symbol leads nowhere
        pub none_over : IsGoneOver pass state i None
        none_over t at_t = subst (λ (u : Symbol). leads (places_in pass.states.now state) u ≡ None) (is_behind t at_t)
            (no_some (leads (places_in pass.states.now state) s) (λ m e. out m ((numbered.edges x m s symbol.1).1 e)))

        -- without a transition no step goes through a node
        pub none_through : (ends : List ℕ) → AddsThose (StepsThrough pass state i) ends ends
        none_through ends = those_none (StepsThrough pass state i) ends (λ n st. absurd (out st.target (by_transition n st)))

      module _ (place target : ℕ) (found : slice_get edges place ≡ Some (x, target)) where
        -- the transition is at the place among those of the state
        found_here : slice_get here.edges.items place ≡ Some (x, target)
        found_here = ap (λ (l : List (ℕ × ℕ)). slice_get l place) (sym is) ∙ found

        -- the symbol leads to the target of the transition
        leads_there : leads (places_in pass.states.now state) s ≡ Some target
        leads_there = (numbered.edges x target s symbol.1).0 (contains_at here.edges.items (x, target) place found_here)

        -- the symbol leads to the target
        pub some_over : IsGoneOver pass state i (Some target)
        some_over t at_t = subst (λ (u : Symbol). leads (places_in pass.states.now state) u ≡ Some target) (is_behind t at_t) leads_there

        module _ (h : HasNullableRest pass i) (first : ℕ) (first_read : first ≡ get_or pass.nodes.now.firsts.items state first) where
          -- the symbol is the nonterminal with the rest
          is_name : s ≡ Nonterminal h.0
          is_name = name_behind h.0 h.1 h.2

          -- the number of the state's first node, as the nodes have it
          first_is : first ≡ get_or pass.nodes.now.firsts.items state 0
          first_is = read_or pass.nodes.now.firsts.items state first 0 (let e = ok.numbered.counted in let f = ok.nodes.counted in omega arith) first_read

          -- the transition, as the nodes have it
          transition_here : slice_get (transitions_at pass.numbered.now state) place ≡ Some (x, target)
          transition_here = ap (λ (o : Option NumberedState). slice_get (listed_transitions o) place) there ∙ found_here

          -- the transition has its node
          node : IsFollowNode (nodes_of pass) (first + place) state h.0
          node = subst (λ (f : ℕ). IsFollowNode (nodes_of pass) (f + place) state h.0) (sym first_is) (transition_node pass ok state place x target h.0 transition_here (symbol.1 ∙ ap Some is_name))

          -- the number of the transition's node is within
          pub node_number : first + place < length pass.nodes.now.pairs.items
          node_number = node_within pass ok (first + place) state h.0 node

          -- the node of the transition is the only one through which the step goes
          pub pushed_through : (ends after : List ℕ) → after ≡ ends ++ (first + place) ∷ [] → AddsThose (StepsThrough pass state i) ends after
          pushed_through ends after pushed = subst (AddsThose (StepsThrough pass state i) ends) (sym pushed) (those_pushed (StepsThrough pass state i) ends (first + place) (record {
            name = h.0;
            after = h.1;
            target = target;
            behind = h.2;
            nullable = h.3;
            edge = subst (λ (u : Symbol). leads (places_in pass.states.now state) u ≡ Some target) is_name leads_there;
            node = node;
          }) (λ n st.
              let e : st.name ≡ h.0 = same_nonterminal (sym (name_behind st.name st.after st.behind) ∙ is_name) in
              one_node pass ok (first + place) n state h.0 node (subst (IsFollowNode (nodes_of pass) n state) e st.node)))

  -- if the rest is not nullable, the step goes through no node
  pub kept_through : (HasNullableRest pass i → ⊥) → (ends : List ℕ) → AddsThose (StepsThrough pass state i) ends ends
  kept_through none ends = those_none (StepsThrough pass state i) ends (λ n st. absurd (none (st.name, st.after, st.behind, st.nullable)))
