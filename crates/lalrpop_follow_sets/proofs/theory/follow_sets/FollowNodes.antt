-- The nodes of a pass: from numbers to a state and a nonterminal, and back.
use Rattle.std.proofs.Common.{◌≡◌, ◌∙◌, ◌⊎◌, inl, inr, ℕ, zero, suc, ◌+◌, ◌<◌, ◌≤◌, ◌↔◌, true, List, [], ◌∷◌, length, map, get_or, refl, sym, ap, subst, arith, option_map}
use Rattle.std.specs.declared.alloc.Global.{Global}
use Rattle.std.specs.declared.vec.Vec.{Vec}
use Rattle.std.specs.Prelude.{slice_get, Some, Contains}
use Rattle.std.proofs.lemmas.Bool.{cases_lt}
use Rattle.std.proofs.lemmas.List.{length-map}
use Rattle.std.proofs.lemmas.Option.{slice_get_past, slice_get_within, slice_get-map}
use Rattle.lalrpop_base.specs.Words.{Bits, Contents, Dotted, contents_at, leads, no_contents, AreExpansions}
use Rattle.lalrpop_follow_sets.specs.Words.{IsFollowNode}
use Rattle.lalrpop_follow_sets.proofs.Types.{Nil, NonterminalString, Symbol, Token}
use Rattle.lalrpop_grammar.specs.declared.repr.Symbol.TheVariants.{Nonterminal}
use Rattle.lalrpop_collections.proofs.theory.lists.Lists.{some_of_map}
use Rattle.lalrpop_follow_sets.specs.follow_sets.FollowNodes.{IsNodeName, IsPass, IsTransitionNode, name_at, name_or, nodes_of}
use Rattle.lalrpop_construction.specs.states.SamePlaces.{places_in}
use Rattle.lalrpop_construction.specs.states.NumberedStates.{IsNumberedState, item_numbers_at, listed_items, listed_transitions, transitions_at}
use Rattle.lalrpop_construction.specs.declared.construction.numbered_state.NumberedState.{NumberedState}
use Rattle.lalrpop_follow_sets.specs.declared.follow_sets.pass.Pass.{Pass}
use Rattle.lalrpop_collections.proofs.theory.lists.Members.{Contains-none, place}
use Rattle.lalrpop_collections.proofs.theory.lists.Places.{contains_at, filled, one_place, same_some, slice_get_at}
use Rattle.lalrpop_construction.proofs.theory.construction.StateEdges.{no_leads}

-- ---- the nonterminal with a number
-- if a nonterminal has the number, it is the one at the number
name_here : (symbols : List Symbol) (start : NonterminalString) (x : ℕ) (a : NonterminalString) → slice_get symbols x ≡ Some (Nonterminal a) → name_at symbols start x ≡ a
name_here [] start x a at = cc
name_here (s ∷ symbols) start zero a at = ap (name_or start) (same_some s (Nonterminal a) at)
name_here (s ∷ symbols) start (suc x) a at = name_here symbols start x a at

-- after the last symbol the one at the number is the start symbol
name_past : (symbols : List Symbol) (start : NonterminalString) (x : ℕ) → length symbols ≤ x → name_at symbols start x ≡ start
name_past [] start x l = refl
name_past (s ∷ symbols) start zero l = absurd (omega arith)
name_past (s ∷ symbols) start (suc x) l = name_past symbols start x (omega arith)

module _ (pass : Pass) (is : IsPass pass) where
  abbrev symbols : List Symbol
  symbols = pass.numbers.now.symbols.items

  abbrev pairs : List (ℕ × ℕ)
  pairs = pass.nodes.now.pairs.items

  abbrev name : ℕ → NonterminalString
  name x = name_at symbols pass.name.now x

  -- the number of the start symbol is that of its nonterminal
  start_named : name pass.start.now.number ≡ pass.name.now
  start_named = elim is.start.number [
    | inl at ↦ name_here symbols pass.name.now pass.start.now.number pass.name.now at
    | inr out ↦ name_past symbols pass.name.now pass.start.now.number (let e = out.0 in omega arith)
  ]

  -- the nonterminal of a node is the one at the number of the node's symbol
  named : (x : ℕ) (a : NonterminalString) → IsNodeName pass x a → name x ≡ a
  named x a h = elim h [
    | inl at ↦ name_here symbols pass.name.now x a at
    | inr start ↦ ap name start.0 ∙ start_named ∙ sym start.1
  ]

  -- ---- from numbers to a nonterminal, and back
  -- a pair of numbers is the node of the nonterminal with the number
  pub node_of_pair : (n s x : ℕ) (a : NonterminalString) → slice_get pairs n ≡ Some (s, x) → IsNodeName pass x a → IsFollowNode (nodes_of pass) n s a
  node_of_pair n s x a at is_name =
      let pair : ℕ × ℕ → ℕ × NonterminalString = λ (p : ℕ × ℕ). (p.0, name p.1) in
      slice_get-map pair pairs n ∙ ap (option_map pair) at ∙ ap (λ (b : NonterminalString). Some (s, b)) (named x a is_name)

  -- a node is a pair of numbers
  pub pair_of_node : (n s : ℕ) (a : NonterminalString) → IsFollowNode (nodes_of pass) n s a → (x : ℕ) × (slice_get pairs n ≡ Some (s, x)) × IsNodeName pass x a
  pair_of_node n s a at =
      let pair : ℕ × ℕ → ℕ × NonterminalString = λ (p : ℕ × ℕ). (p.0, name p.1) in
      let found = some_of_map pair (slice_get pairs n) (s, a) (sym (slice_get-map pair pairs n) ∙ at) in
      let p : ℕ × ℕ = found.0 in
      let here : slice_get pairs n ≡ Some (s, p.1) = found.1 ∙ ap (λ (k : ℕ). Some (k, p.1)) (ap (λ (q : ℕ × NonterminalString). q.0) found.2) in
      let same : name p.1 ≡ a = ap (λ (q : ℕ × NonterminalString). q.1) found.2 in (
        p.1,
        here,
        elim (is.nodes.from n s p.1 here) [
          | inl start ↦ inr (start.1, sym same ∙ ap name start.1 ∙ start_named)
          | inr t ↦ inl (t.symbol ∙ ap (λ (b : NonterminalString). Some (Nonterminal b)) (sym (name_here symbols pass.name.now p.1 t.name t.symbol) ∙ same))
        ],
      )

  -- there are as many nodes as pairs
  pub nodes_counted : length (nodes_of pass) ≡ length pairs
  nodes_counted = length-map pairs (λ (p : ℕ × ℕ). (p.0, name p.1))

  -- a node is within the pairs
  pub node_within : (n s : ℕ) (a : NonterminalString) → IsFollowNode (nodes_of pass) n s a → n < length pairs
  node_within n s a at = let p = pair_of_node n s a at in slice_get_within pairs n (s, p.0) p.1

  -- a number is of one nonterminal
  pub one_name : (x : ℕ) (a b : NonterminalString) → IsNodeName pass x a → IsNodeName pass x b → a ≡ b
  one_name x a b at_a at_b = sym (named x a at_a) ∙ named x b at_b

  -- if the start symbol has a number among the symbols, this is the number of the start
  start_or : (x : ℕ) (a : NonterminalString) → slice_get symbols x ≡ Some (Nonterminal a) → a ≡ pass.name.now → x ≡ pass.start.now.number
  start_or x a at same =
      let here : slice_get symbols x ≡ Some (Nonterminal pass.name.now) = at ∙ ap (λ (b : NonterminalString). Some (Nonterminal b)) same in
      elim is.start.number [
        | inl there ↦ one_place symbols is.numbers.differ x pass.start.now.number (Nonterminal pass.name.now) here there
        | inr out ↦ absurd (out.1 (contains_at symbols (Nonterminal pass.name.now) x here))
      ]

  -- a nonterminal has one number
  pub one_number : (x y : ℕ) (a : NonterminalString) → IsNodeName pass x a → IsNodeName pass y a → x ≡ y
  one_number x y a at_x at_y = elim at_x [
    | inl here ↦ elim at_y [
      | inl there ↦ one_place symbols is.numbers.differ x y (Nonterminal a) here there
      | inr start ↦ start_or x a here start.1 ∙ sym start.0
    ]
    | inr begun ↦ elim at_y [
      | inl there ↦ begun.0 ∙ sym (start_or y a there begun.1)
      | inr start ↦ begun.0 ∙ sym start.0
    ]
  ]

  -- no two nodes are the same
  pub one_node : (n m s : ℕ) (a : NonterminalString) → IsFollowNode (nodes_of pass) n s a → IsFollowNode (nodes_of pass) m s a → n ≡ m
  one_node n m s a at_n at_m =
      let p = pair_of_node n s a at_n in
      let q = pair_of_node m s a at_m in
      let same : q.0 ≡ p.0 = one_number q.0 p.0 a q.2 p.2 in
      one_place pairs is.nodes.differ n m (s, p.0) p.1 (q.1 ∙ ap (λ (x : ℕ). Some (s, x)) same)

  -- ---- the nodes of transitions and of the start symbol
  -- a transition over a nonterminal has a node
  pub transition_node : (s k x target : ℕ) (a : NonterminalString) → slice_get (transitions_at pass.numbered.now s) k ≡ Some (x, target) → slice_get symbols x ≡ Some (Nonterminal a) → IsFollowNode (nodes_of pass) (get_or pass.nodes.now.firsts.items s 0 + k) s a
  transition_node s k x target a edge at = node_of_pair (get_or pass.nodes.now.firsts.items s 0 + k) s x a (is.nodes.here s k x target a edge at) (inl at)

  -- a node is that of the start symbol in state 0, or of a transition over the nonterminal
  pub node_cases : (n s : ℕ) (a : NonterminalString) → IsFollowNode (nodes_of pass) n s a →
      ((s ≡ 0) × (a ≡ pass.name.now)) ⊎ ((x : ℕ) × (slice_get symbols x ≡ Some (Nonterminal a)) × IsTransitionNode symbols pass.numbered.now pass.nodes.now.firsts.items n s x)
  node_cases n s a at =
      let p = pair_of_node n s a at in
      elim (is.nodes.from n s p.0 p.1) [
        | inl start ↦ inl (start.0, one_name p.0 a pass.name.now p.2 (inr (start.1, refl)))
        | inr t ↦ inr (p.0, t.symbol ∙ ap (λ (b : NonterminalString). Some (Nonterminal b)) (one_name p.0 t.name a (inl t.symbol) p.2), t)
      ]

  -- the start symbol in state 0 has a node
  pub start_node : (n : ℕ) × IsFollowNode (nodes_of pass) n 0 pass.name.now
  start_node =
      let p = place pairs (0, pass.start.now.number) is.nodes.begun in
      (p.0, node_of_pair p.0 0 pass.start.now.number pass.name.now p.2 (inr (refl, refl)))

  -- ---- states by number
  -- each state has its state by number
  pub state_by_number : (s : ℕ) → s < length pass.states.now → (state : NumberedState) × (slice_get pass.numbered.now s ≡ Some state) × IsNumberedState pass.numbers.now (places_in pass.states.now s) state
  state_by_number s l =
      let found = filled pass.numbered.now s (let e = is.numbered.counted in omega arith) in
      (found.0, found.1, is.numbered.each s found.0 found.1)

  -- the state by number that is read is in the list at its number
  read_there : (s : ℕ) → s < length pass.states.now → (state : NumberedState) → state ≡ get_or pass.numbered.now s state → slice_get pass.numbered.now s ≡ Some state
  read_there s l state read = slice_get_at pass.numbered.now s state (let e = is.numbered.counted in omega arith) read

  -- the transitions that are read are those of the state with the number
  pub transitions_read : (s : ℕ) → s < length pass.states.now → (state : NumberedState) (edges : List (ℕ × ℕ)) → state ≡ get_or pass.numbered.now s state → edges ≡ (get_or pass.numbered.now s state).edges.items → edges ≡ transitions_at pass.numbered.now s
  transitions_read s l state edges read value = value ∙ ap (λ (n : NumberedState). n.edges.items) (sym read) ∙ sym (ap listed_transitions (read_there s l state read))

  -- the items that are read are those of the state with the number
  pub items_read : (s : ℕ) → s < length pass.states.now → (state : NumberedState) (items : List ℕ) → state ≡ get_or pass.numbered.now s state → items ≡ (get_or pass.numbered.now s state).items.items → items ≡ item_numbers_at pass.numbered.now s
  items_read s l state items read value = value ∙ ap (λ (n : NumberedState). n.items.items) (sym read) ∙ sym (ap listed_items (read_there s l state read))

  -- after the last state there is no transition
  no_transitions : (s : ℕ) → length pass.states.now ≤ s → transitions_at pass.numbered.now s ≡ []
  no_transitions s l = ap listed_transitions (slice_get_past pass.numbered.now s (let e = is.numbered.counted in omega arith))

  -- after the last state there is no item
  no_items : (s : ℕ) → length pass.states.now ≤ s → item_numbers_at pass.numbered.now s ≡ []
  no_items s l = ap listed_items (slice_get_past pass.numbered.now s (let e = is.numbered.counted in omega arith))

  -- a number with a transition is that of a state
  pub state_of_transition : (s : ℕ) (e : ℕ × ℕ) → Contains (transitions_at pass.numbered.now s) e → s < length pass.states.now
  state_of_transition s e c = elim (cases_lt s (length pass.states.now)) [
    | inl l ↦ l
    | inr l ↦ absurd (Contains-none e (subst (λ (es : List (ℕ × ℕ)). Contains es e) (no_transitions s l) c))
  ]

  -- a number with an item is that of a state
  pub state_of_item : (s k : ℕ) → Contains (item_numbers_at pass.numbered.now s) k → s < length pass.states.now
  state_of_item s k c = elim (cases_lt s (length pass.states.now)) [
    | inl l ↦ l
    | inr l ↦ absurd (Contains-none k (subst (λ (ks : List ℕ). Contains ks k) (no_items s l) c))
  ]

  -- the state of a node is a state of the list
  pub state_of_node : (n s : ℕ) (a : NonterminalString) → IsFollowNode (nodes_of pass) n s a → s < length pass.states.now
  state_of_node n s a at = elim (node_cases n s a at) [
    | inl start ↦ let e = start.0 in let l = is.some in omega arith
    | inr found ↦ let t = found.2 in state_of_transition s (found.0, t.target) (contains_at (transitions_at pass.numbered.now s) (found.0, t.target) t.place t.edge)
  ]

  -- a transition by number leads where the symbol leads
  pub transition_leads : (s x target : ℕ) (y : Symbol) → slice_get symbols x ≡ Some y → Contains (transitions_at pass.numbered.now s) (x, target) ↔ (leads (places_in pass.states.now s) y ≡ Some target)
  transition_leads s x target y at = elim (cases_lt s (length pass.states.now)) [
    | inl l ↦
        let found = state_by_number s l in
        subst (λ (es : List (ℕ × ℕ)). Contains es (x, target) ↔ (leads (places_in pass.states.now s) y ≡ Some target)) (sym (ap listed_transitions found.1)) (found.2.edges x target y at)
    | inr l ↦
        let past : places_in pass.states.now s ≡ no_contents = past_contents s l in (
          λ c. absurd (Contains-none (x, target) (subst (λ (es : List (ℕ × ℕ)). Contains es (x, target)) (no_transitions s l) c)),
          λ e. absurd (no_leads y target (subst (λ (c : Contents). leads c y ≡ Some target) past e)),
        )
  ]
    where
      past_contents : (s : ℕ) → length pass.states.now ≤ s → places_in pass.states.now s ≡ no_contents
      past_contents s l = ap (contents_at (λ (lookahead : Bits) (t : Token). true)) (slice_get_past pass.states.now s l)

  -- the number of an item is that of a dotted production
  pub item_known : (s k : ℕ) → Contains (item_numbers_at pass.numbered.now s) k → k < length pass.numbers.now.items.items
  item_known s k c =
      let found = state_by_number s (state_of_item s k c) in
      found.2.known k (subst (λ (ks : List ℕ). Contains ks k) (ap listed_items found.1) c)

  -- an item by number is an item of the state
  pub item_listed : (s k : ℕ) (i : Dotted Nil) → slice_get pass.numbers.now.items.items k ≡ Some i → s < length pass.states.now → Contains (item_numbers_at pass.numbered.now s) k ↔ Contains (places_in pass.states.now s).items (i.production, i.index)
  item_listed s k i at l =
      let found = state_by_number s l in
      subst (λ (ks : List ℕ). Contains ks k ↔ Contains (places_in pass.states.now s).items (i.production, i.index)) (sym (ap listed_items found.1)) (found.2.items k i at)

  -- ---- the expansions of a node's nonterminal
  -- the expansions at the number of the node's symbol are those of the node's nonterminal
  pub fronts_listed : (x : ℕ) (a : NonterminalString) (v : Vec ℕ Global) → IsNodeName pass x a → slice_get pass.numbers.now.expansions.items x ≡ Some v → AreExpansions pass.numbers.now.items.items (Nonterminal a) v.items
  fronts_listed x a v is_name at =
      let items : Vec ℕ Global → List ℕ = λ (w : Vec ℕ Global). w.items in
      let there : slice_get (map items pass.numbers.now.expansions.items) x ≡ Some v.items = slice_get-map items pass.numbers.now.expansions.items x ∙ ap (option_map items) at in
      elim is_name [
        | inl here ↦ is.numbers.expansions x (Nonterminal a) v.items here there
        | inr start ↦ elim is.start.number [
          | inl known ↦ is.numbers.expansions x (Nonterminal a) v.items (ap (slice_get symbols) start.0 ∙ known ∙ ap (λ (b : NonterminalString). Some (Nonterminal b)) (sym start.1)) there
          | inr out ↦
              let l = slice_get_within pass.numbers.now.expansions.items x v at in
              let same : x ≡ pass.start.now.number = start.0 in
              let past : pass.start.now.number ≡ length symbols = out.0 in
              let count : length pass.numbers.now.expansions.items ≡ length symbols = pass.numbers.now.expanded in
              absurd (omega (arith, l, same, past, count))
        ]
      ]

  -- the expansions of the start symbol, if its number is that of no symbol
  pub fronts_of_start : (x : ℕ) (a : NonterminalString) → IsNodeName pass x a → length pass.numbers.now.expansions.items ≤ x → AreExpansions pass.numbers.now.items.items (Nonterminal a) pass.start.now.expansions.items
  fronts_of_start x a is_name past = elim is_name [
    | inl here ↦
        let l = slice_get_within symbols x (Nonterminal a) here in
        let count : length pass.numbers.now.expansions.items ≡ length symbols = pass.numbers.now.expanded in
        absurd (omega (arith, l, past, count))
    | inr start ↦ subst (λ (b : NonterminalString). AreExpansions pass.numbers.now.items.items (Nonterminal b) pass.start.now.expansions.items) (sym start.1) is.start.expansions
  ]
