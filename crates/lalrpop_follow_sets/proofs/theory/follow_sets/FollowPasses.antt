-- The sets and the edges of a pass over closed states are their follow graph.
use Rattle.std.proofs.Common.{◌≡◌, ◌⊎◌, inl, inr, ℕ, ◌+◌, List, ◌∷◌, drop, get_or, length, refl, sym, ◌∙◌, ap, subst, arith, Option, Some, None, true}
use Rattle.std.specs.Prelude.{Contains, slice_get}
use Rattle.std.specs.declared.alloc.Global.{Global}
use Rattle.std.specs.declared.vec.Vec.{Vec}
use Rattle.std.proofs.lemmas.Option.{slice_get_within}
use Rattle.lalrpop_base.specs.Words.{Bits, contents_at, Contents, items_of, Rules, rules_of}
use Rattle.lalrpop_follow_sets.specs.Words.{HaveNodesAtStart, IncludesFollow, IsFollowGraph, IsFollowNode}
use Rattle.lalrpop_base.specs.Words.{with_dot, AreNumbers, IsBehindDot}
use Rattle.lalrpop_follow_sets.proofs.Types.{NonterminalString, Production, State, Symbol, Token}
use Rattle.lalrpop_grammar.specs.declared.repr.Symbol.TheVariants.{Nonterminal}
use Rattle.lalrpop_states.proofs.theory.states.ContentsViews.{lead_as_items_say}
use Rattle.lalrpop_construction.specs.Words.{places_in}
use Rattle.lalrpop_follow_sets.specs.follow_sets.FollowNodes.{IsExpandedAt, IsPass, nodes_of}
use Rattle.lalrpop_follow_sets.specs.follow_sets.FollowWalks.{AreInitialSets, AreIncludes, GoesThrough}
use Rattle.lalrpop_construction.specs.states.NumberedStates.{transitions_at}
use Rattle.lalrpop_numbers.specs.declared.numbers.Numbers.{Numbers}
use Rattle.lalrpop_follow_sets.specs.declared.follow_sets.pass.Pass.{Pass}
use Rattle.lalrpop_states.proofs.theory.closures.Closing.{split_drop}
use Rattle.lalrpop_follow_sets.proofs.theory.follow_sets.FollowClosures.{front_started, walked_item}
use Rattle.lalrpop_follow_sets.proofs.theory.follow_sets.FollowGraphs.{included_node}
use Rattle.lalrpop_follow_sets.proofs.theory.follow_sets.FollowNodes.{node_cases, start_node, transition_leads, transition_node}
use Rattle.lalrpop_follow_sets.proofs.theory.follow_sets.FollowSets.{within}
use Rattle.lalrpop_collections.proofs.theory.lists.Places.{same_some}
use Rattle.lalrpop_collections.proofs.theory.lists.Lists.{contains_place, place_contains}

-- a symbol after a dot of a production of the grammar has a number
pub numbered_behind : (g : Rules) (n : Numbers) → AreNumbers g n → (q : Production) (dot : ℕ) (s : Symbol) (after : List Symbol) → Contains g.productions q → drop dot q.symbols ≡ s ∷ after → (x : ℕ) × (slice_get n.symbols.items x ≡ Some s)
numbered_behind g n numbers q dot s after own behind =
    contains_place n.symbols.items s ((numbers.symbols s).1 (record { item = with_dot q dot; among = numbers.items.all q dot own (within dot q.symbols behind); behind = split_drop dot q.symbols s after behind }))

module _ (pass : Pass) (fits : IsPass pass) where
  abbrev g : Rules
  g = rules_of pass.grammar.now

  abbrev places : ℕ → Contents
  places = places_in pass.states.now

  abbrev nodes : List (ℕ × NonterminalString)
  nodes = nodes_of pass

  -- a state with an item is expanded
  item_expanded : (n : ℕ) (q : Production) (dot : ℕ) → items_of places n q dot → IsExpandedAt g.productions pass.name.now places n
  item_expanded n q dot h = by_case (slice_get pass.states.now n) refl h
    where
      by_case : (o : Option (State Bits)) → slice_get pass.states.now n ≡ o → Contains (contents_at (λ lookahead (t : Token). true) o).items (q, dot) → IsExpandedAt g.productions pass.name.now places n
      by_case None e k = absurd (let l = k.1 in omega arith)
      by_case (Some state) e k = fits.expanded n (slice_get_within pass.states.now n state e)

  -- a nonterminal with a transition is a node
  goto_node : (s m : ℕ) (a : NonterminalString) (x : ℕ) → (places s).goto a ≡ Some m → slice_get pass.numbers.now.symbols.items x ≡ Some (Nonterminal a) → (n : ℕ) × IsFollowNode nodes n s a
  goto_node s m a x leads number =
      let k = contains_place (transitions_at pass.numbered.now s) (x, m) ((transition_leads pass fits s x m (Nonterminal a) number).1 leads) in
      (get_or pass.nodes.now.firsts.items s 0 + k.0, transition_node pass fits s k.0 x m a k.1 number)

  -- a node is the start symbol in state 0, or has a transition
  node_is : (n s : ℕ) (a : NonterminalString) → IsFollowNode nodes n s a → ((s ≡ 0) × (a ≡ pass.name.now)) ⊎ ((m : ℕ) × ((places s).goto a ≡ Some m))
  node_is n s a node = elim (node_cases pass fits n s a node) [
    | inl first ↦ inl first
    | inr t ↦
        let e = t.2 in
        inr (e.target, (transition_leads pass fits s t.0 e.target (Nonterminal a) t.1).0 (place_contains (transitions_at pass.numbered.now s) e.place (t.0, e.target) e.edge))
  ]

  -- a nonterminal after a dot has a transition and a node
  behind_node : (s : ℕ) (a : NonterminalString) → IsBehindDot (places s) (Nonterminal a) → (m : ℕ) × (n : ℕ) × ((places s).goto a ≡ Some m) × IsFollowNode nodes n s a
  behind_node s a b =
      let edge = (fits.closed.edges s (Nonterminal a)).1 b in
      let x = numbered_behind g pass.numbers.now fits.numbers b.production b.dot (Nonterminal a) b.after (fits.own s b.production b.dot b.item).0 b.behind in
      let n = goto_node s edge.0 a x.0 edge.1 x.1 in
      (edge.0, n.0, edge.1, n.1)

  -- each item with the dot at the start has a node for its nonterminal
  pub begun_nodes : HaveNodesAtStart places nodes
  begun_nodes r q item = elim ((item_expanded r q 0 item).begun q item) [
    | inl first ↦
        let n = start_node pass fits in
        (n.0, n.1 ∙ ap (λ (s : ℕ). Some (s, pass.name.now)) (sym first.0) ∙ ap (λ (a : NonterminalString). Some (r, a)) (sym first.1))
    | inr behind ↦ let n = behind_node r q.nonterminal behind in (n.1, n.3)
  ]

  -- the productions of a node's nonterminal, with the dot at the start, are items of the node's
  -- state
  pub node_items : (n s : ℕ) (q : Production) → IsFollowNode nodes n s q.nonterminal → Contains g.productions q → items_of places s q 0
  node_items n s q node own = elim (node_is n s q.nonterminal node) [
    | inl first ↦ subst (λ (k : ℕ). items_of places k q 0) (sym first.0) (front_started g.productions pass.name.now places fits.closed q own first.1)
    | inr edge ↦
        let b = (fits.closed.edges s (Nonterminal q.nonterminal)).0 edge in
        (item_expanded s b.production b.dot b.item).expanded q own b
  ]

  -- two nodes with one number are the same
  same_node : (n s r : ℕ) (a b : NonterminalString) → IsFollowNode nodes n s a → IsFollowNode nodes n r b → (s ≡ r) × (a ≡ b)
  same_node n s r a b here there =
      let e = same_some (s, a) (r, b) (sym here ∙ there) in
      (ap (λ (p : ℕ × NonterminalString). p.0) e, ap (λ (p : ℕ × NonterminalString). p.1) e)

  -- if a walk over a production of a node goes through another node, the other node includes the
  -- follow set of the first
  through_includes : (m r s n : ℕ) (a : NonterminalString) (q : Production) → IsFollowNode nodes m r q.nonterminal → Contains g.productions q → IsFollowNode nodes n s a → GoesThrough pass r q n → IncludesFollow g.productions places s a r q.nonterminal
  through_includes m r s n a q of own node t =
      let same = same_node n t.state s t.name a t.node node in
      subst (λ (k : ℕ). IncludesFollow g.productions places k a r q.nonterminal) same.0 (subst (λ (c : NonterminalString). IncludesFollow g.productions places t.state c r q.nonterminal) same.1 (record {
        parent = q;
        dot = t.dot;
        after = t.after;
        item = walked_item g.productions pass.name.now places fits.closed r q t.dot t.state (within t.dot q.symbols t.behind) t.leads (node_items m r q of own);
        behind = t.behind;
        nullable = t.nullable;
        leads = t.leads;
        own = refl;
      }))

  -- a walk goes through each node that includes the follow set
  includes_through : (n s r : ℕ) (a b : NonterminalString) → IsFollowNode nodes n s a → (i : IncludesFollow g.productions places s a r b) → GoesThrough pass r i.parent n
  includes_through n s r a b node i =
      let edge = (fits.closed.edges s (Nonterminal a)).1 (record { production = i.parent; dot = i.dot; after = i.after; item = i.item; behind = i.behind }) in
      record { dot = i.dot; state = s; name = a; after = i.after; target = edge.0; behind = i.behind; nullable = i.nullable; leads = i.leads; edge = edge.1; node = node }

  -- the sets and the edges are the follow graph
  pub follow_graph : (sets : List Bits) (edges : List (Vec ℕ Global)) → AreInitialSets pass sets → AreIncludes pass edges → IsFollowGraph g pass.name.now places nodes sets edges
  follow_graph sets edges begun includes = record {
    counted = includes.counted;
    in_range = λ m n there. let t = ((includes.ends m n).0 there).4 in slice_get_within nodes n (t.state, t.name) t.node;
    begun = begun.begun;
    edges_include = λ m n r s b a at_m at_n there.
        let w = (includes.ends m n).0 there in
        let same = same_node m w.0 r (w.1).nonterminal b w.2 at_m in
        subst (λ (k : ℕ). IncludesFollow g.productions places s a k b) same.0 (subst (λ (c : NonterminalString). IncludesFollow g.productions places s a w.0 c) same.1 (through_includes m w.0 s n a w.1 w.2 w.3 at_n w.4));
    included_edges = λ n s r a b at_n i.
        let m = included_node places (length pass.states.now) (lead_as_items_say (λ lookahead (t : Token). true) pass.states.now fits.coherent) g.productions nodes begun_nodes s r a b i in
        (m.0, m.1, (includes.ends m.0 n).1 (r, i.parent, m.1 ∙ ap (λ (c : NonterminalString). Some (r, c)) (sym i.own), (fits.own s i.parent i.dot i.item).0, includes_through n s r a b at_n i));
  }
