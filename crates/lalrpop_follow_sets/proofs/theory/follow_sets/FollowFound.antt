-- The result of a pass: the unions of its least sets are the lookahead sets of finished items.
use Rattle.std.proofs.Common.{◌≡◌, ◌↔◌, ℕ, ◌<◌, List, length, sym, ◌∙◌, ap, subst, arith, Some, true}
use Rattle.std.specs.Prelude.{Contains, slice_get}
use Rattle.std.specs.declared.alloc.Global.{Global}
use Rattle.std.specs.declared.vec.Vec.{Vec}
use Rattle.std.proofs.lemmas.Option.{slice_get_within}
use Rattle.lalrpop_base.specs.Words.{Bits, has, Contents, Dotted, edge_ends, HoldsBit, IsSpread, Rules, rules_of}
use Rattle.lalrpop_follow_sets.specs.Words.{HasLookaheadBits, IsFollowNode, IsUnionOver}
use Rattle.lalrpop_follow_sets.specs.Words.{LeadsOver}
use Rattle.lalrpop_base.specs.Words.{with_dot}
use Rattle.lalrpop_follow_sets.proofs.Types.{Nil, NonterminalString, Production, Token}
use Rattle.lalrpop_states.proofs.theory.states.ContentsViews.{lead_as_items_say}
use Rattle.lalrpop_construction.specs.Words.{places_in}
use Rattle.lalrpop_follow_sets.specs.follow_sets.FollowNodes.{IsPass, nodes_of}
use Rattle.lalrpop_follow_sets.specs.follow_sets.FollowWalks.{AreInitialSets, AreIncludes, AreLookbacks, AreTokensOfSymbols, entries_at, FindsLookaheads, IsInUnion}
use Rattle.lalrpop_follow_sets.specs.declared.follow_sets.sets.FollowSets.{FollowSets}
use Rattle.lalrpop_follow_sets.specs.declared.follow_sets.pass.Pass.{Pass}
use Rattle.lalrpop_follow_sets.proofs.theory.follow_sets.FollowGraphs.{lookback_nodes, union_lookahead}
use Rattle.lalrpop_follow_sets.proofs.theory.follow_sets.FollowPasses.{begun_nodes, follow_graph}
use Rattle.lalrpop_collections.proofs.theory.lists.Places.{same_some}

module _ (pass : Pass) (fits : IsPass pass) where
  abbrev g : Rules
  g = rules_of pass.grammar.now

  abbrev places : ℕ → Contents
  places = places_in pass.states.now

  abbrev nodes : List (ℕ × NonterminalString)
  nodes = nodes_of pass

  module _ (sets : List Bits) (edges : List (Vec ℕ Global)) (begun : AreInitialSets pass sets) (includes : AreIncludes pass edges) where
    -- an edge leads to a set
    pub ends_within : (m n : ℕ) → Contains (edge_ends edges m) n → n < length sets
    ends_within m n there =
        let l = (follow_graph pass fits sets edges begun includes).in_range m n there in
        let c = begun.counted in
        omega arith

    module _ (follow : List Bits) (counted : length follow ≡ length sets) (least : (n bit : ℕ) → HoldsBit follow n bit ↔ IsSpread sets edges n bit) (lookback : List (Vec (ℕ × ℕ) Global)) (ends : AreLookbacks pass lookback) where
      -- the number that is paired with a finished item is that of a node
      entry_within : (s k m : ℕ) → Contains (entries_at lookback s) (k, m) → m < length follow
      entry_within s k m there =
          let e = (ends.entries s k m).0 there in
          let l : m < length nodes = slice_get_within nodes m (e.0, (e.1).nonterminal) e.2 in
          let c = begun.counted in
          omega arith

      -- the union over the entries of a finished item is that over the nodes of its production
      entries_union : (s k : ℕ) (p : Production) → Contains (places s).items (p, length p.symbols) → slice_get pass.numbers.now.items.items k ≡ Some (with_dot p (length p.symbols)) →
          (set : Bits) → ((bit : ℕ) → (has set bit ≡ true) ↔ IsInUnion follow (entries_at lookback s) k bit) → IsUnionOver g pass.name.now places nodes follow s p set
      entries_union s k p item number set union bit = (
        λ h.
            let u = (union bit).0 h in
            let e = (ends.entries s k u.0).0 u.1 in
            let same : e.1 ≡ p = ap (λ (i : Dotted Nil). i.production) (same_some (with_dot e.1 (length (e.1).symbols)) (with_dot p (length p.symbols)) (sym (e.4).1 ∙ number)) in
            (u.0, e.0, subst (λ (q : Production). IsFollowNode nodes u.0 e.0 q.nonterminal) same e.2, subst (λ (q : Production). LeadsOver places e.0 q.symbols s) same (e.4).0, u.2),
        λ h. (union bit).1 (h.0, (ends.entries s k h.0).1 (h.1, p, h.2, (fits.own s p (length p.symbols) item).0, (h.3, number)), h.4),
      )

      -- the union over the entries of a finished item is the lookahead set of its production
      found_lookahead : (s k : ℕ) (p : Production) → Contains (places s).items (p, length p.symbols) → slice_get pass.numbers.now.items.items k ≡ Some (with_dot p (length p.symbols)) →
          (set : Bits) → ((bit : ℕ) → (has set bit ≡ true) ↔ IsInUnion follow (entries_at lookback s) k bit) → HasLookaheadBits g pass.name.now places s set p
      found_lookahead s k p item number set union =
          let say = lead_as_items_say (λ lookahead (t : Token). true) pass.states.now fits.coherent in
          union_lookahead g pass.name.now places nodes sets edges (follow_graph pass fits sets edges begun includes) follow least s p set
          (lookback_nodes places (length pass.states.now) say g pass.name.now nodes (begun_nodes pass fits) s p item) (entries_union s k p item number set union)

      -- the pass finds lookahead sets
      pub finds_lookaheads : (found : FollowSets) → found.follow.items ≡ follow → found.lookback.items ≡ lookback → AreTokensOfSymbols g.terminals pass.numbers.now.symbols.items found.tokens.items →
          FindsLookaheads g pass.name.now pass.numbers.now places (length pass.states.now) found
      finds_lookaheads found same_follow same_lookback tokens =
          record {
            counted = ap length same_lookback ∙ ends.counted;
            within = λ s k m there. subst (λ (xs : List Bits). m < length xs) (sym same_follow) (entry_within s k m (subst (λ (l : List (Vec (ℕ × ℕ) Global)). Contains (entries_at l s) (k, m)) same_lookback there));
            lookaheads = λ s k p item number set union.
                found_lookahead s k p item number set
                (subst (λ (l : List (Vec (ℕ × ℕ) Global)). (bit : ℕ) → (has set bit ≡ true) ↔ IsInUnion follow (entries_at l s) k bit) same_lookback
                (subst (λ (f : List Bits). (bit : ℕ) → (has set bit ≡ true) ↔ IsInUnion f (entries_at found.lookback.items s) k bit) same_follow union));
            tokens = tokens;
          }
