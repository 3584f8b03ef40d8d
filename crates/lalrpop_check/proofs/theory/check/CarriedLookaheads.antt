-- A token that is carried to a finished item is in its lookahead set. So reductions that hold their
-- lookahead sets hold the carried tokens.
use Rattle.std.proofs.Common.{◌≡◌, ◌∙◌, ℕ, suc, Bool, true, List, length, refl, sym, ap, subst, arith, Option, Some, None}
use Rattle.std.specs.Prelude.{slice_get, Contains}
use Rattle.std.specs.Borrow.{Bor}
use Rattle.std.proofs.lemmas.Option.{slice_get_within}
use Rattle.lalrpop_base.specs.Words.{AllDiffer, AreClosed, AreCoherent, Bits, Contents, IsBitOf, IsCarried, IsLaneToken, IsWellFormed, behind_parent}
use Rattle.lalrpop_follow_sets.specs.Words.{IsLookahead}
use Rattle.lalrpop_base.specs.Words.{contents, contents_at, holds_token, of_start, productions, reduction_of, rules_of}
use Rattle.lalrpop_check.specs.Words.{HoldCarried}
use Rattle.lalrpop_grammar.specs.lanes.Lanes.{Gives}
use Rattle.lalrpop_grammar.specs.states.States.{Reduction}
use Rattle.lalrpop_check.proofs.Types.{Grammar, NonterminalString, Production, State, Token}
use Rattle.lalrpop_grammar.specs.declared.lookahead.token.Token.TheVariants.{Terminal as TokenOf}
use Rattle.lalrpop_grammar.specs.declared.repr.Symbol.TheVariants.{Nonterminal}
use Rattle.lalrpop_grammar.proofs.theory.grammars.Grammars.{known_rest, known_symbols}
use Rattle.lalrpop_states.proofs.theory.grammars.KnownTerminals.{begun_bit}
use Rattle.lr1_theory.proofs.theory.lanes.LaneTables.{carried_traced}
use Rattle.lalrpop_collections.proofs.theory.lists.Members.{Contains-none, contains_map, place}
use Rattle.lalrpop_collections.proofs.theory.lists.Places.{filled}
use Rattle.lalrpop_states.proofs.theory.states.HeldTokens.{holds_has, place_there}
use Rattle.lalrpop_states.proofs.theory.states.ContentsViews.{lead_as_items_say}
use Rattle.lalrpop_collections.proofs.theory.lists.Lists.{contains_of_map}
use Rattle.lalrpop_check.specs.check.ByNumber.{HoldUnions}
use Rattle.lalrpop_follow_sets.specs.follow_sets.FollowNodes.{AreItemsOfGrammar}
use Rattle.lalrpop_follow_sets.specs.follow_sets.FollowWalks.{FindsLookaheads}
use Rattle.lalrpop_construction.specs.states.SamePlaces.{places_in}
use Rattle.lalrpop_construction.specs.states.NumberedStates.{AreNumberedStates}
use Rattle.lalrpop_numbers.specs.declared.numbers.Numbers.{Numbers}
use Rattle.lalrpop_follow_sets.specs.declared.follow_sets.sets.FollowSets.{FollowSets}
use Rattle.lalrpop_construction.specs.declared.construction.numbered_state.NumberedState.{NumberedState}
use Rattle.lalrpop_follow_sets.proofs.theory.follow_sets.FollowSets.{lane_lookahead, rest_behind}
use Rattle.lalrpop_follow_sets.proofs.theory.lane_states.LanePlaces.{AreSamePlaces, lane_there, places_same, place_itself}

module _ (g : Grammar) (start : NonterminalString) (states : List (State Bits)) where
  abbrev here : ℕ → Contents
  here = contents g.terminals states

  abbrev places : ℕ → Contents
  places = places_in states

  abbrev any : Bits → Token → Bool
  any = λ lookahead t. true

  -- the contents have the same places as the states
  pub here_there : AreSamePlaces here places
  here_there = places_same (holds_token g.terminals) any states states (place_itself states)

  -- ---- a lane token has a bit
  module _ (well : IsWellFormed g) (own : AreItemsOfGrammar (productions g) places) where
    given_bit : {s : ℕ} {p : Production} {dot : ℕ} {t : Token} → Gives (productions g) start places s p dot t → (bit : ℕ) × IsBitOf g.terminals t bit
    given_bit (behind_parent s p q dot after t c e f) =
        let known = known_rest g.terminals (suc dot) q.symbols after (known_symbols g q well (own s q dot c).0) (rest_behind dot q.symbols after (Nonterminal p.nonterminal) e) in
        let b = begun_bit (rules_of g) (λ z h. known_symbols g z well h) after known (TokenOf t) f in
        (b.0, place_there g.terminals t b.0 b.1)
    given_bit (of_start s p e) = (length g.terminals, refl)

    -- ---- reductions that hold their lookahead sets
    module _ (n : Numbers) (list : List NumberedState) (coherent : AreCoherent states) (differ : AllDiffer g.terminals) (closed : AreClosed (productions g) start here) (numbered : AreNumberedStates n states list) (found : FollowSets)
        (finds : FindsLookaheads (rules_of g) start n places (length states) found) (held : HoldUnions found states list) where
      carried_lane : (m : ℕ) (p : Production) (t : Token) → IsCarried (productions g) start here m p (length p.symbols) t → IsLaneToken (productions g) start places m p (length p.symbols) t
      carried_lane m p t c = lane_there (productions g) start here places here_there m p (length p.symbols) t (carried_traced (productions g) start here closed c)

      reduction_holds : (m : ℕ) (old : State Bits) → slice_get states m ≡ Some old → (q : Bits × Bor Production) → Contains old.reductions.items q → (t : Token) → IsCarried (productions g) start here m q.1.now (length q.1.now.symbols) t → holds_token g.terminals q.0 t ≡ true
      reduction_holds m old at q c t carried =
          let p : Production = q.1.now in
          let l = slice_get_within states m old at in
          let counted = numbered.counted in
          let st = filled list m (omega (arith, l, counted)) in
          let f = place old.reductions.items q c in
          let same = numbered.reduced m old st.0 at st.1 in
          let length_same = same.counted in
          let k = filled (st.0).reductions.items f.0 (omega (arith, f.1, length_same)) in
          let u = held m f.0 k.0 old st.0 q at st.1 f.2 k.1 in
          let say = lead_as_items_say any states coherent in
          let among : Contains (places m).reductions (reduction_of any q) = subst (λ (o : Option (State Bits)). Contains (contents_at any o).reductions (reduction_of any q)) (sym at) (contains_map (reduction_of any) old.reductions.items q c) in
          let item = say.finished m (reduction_of any q) among in
          let bits = finds.lookaheads m k.0 p item (same.each f.0 k.0 q f.2 k.1) u.set u.union in
          let lane = carried_lane m p t carried in
          let b = given_bit (lane.1).gives in
          let look : IsLookahead (productions g) start places m p t = (lane_lookahead (productions g) start places m p t).0 lane in
          (holds_has g.terminals differ q.0 t).1 (b.0, b.1, u.within b.0 ((bits b.0).1 (t, b.1, look)))

      pub Unions-carried : HoldCarried g start states
      Unions-carried m r t c carried = go (slice_get states m) refl c
        where
          go : (o : Option (State Bits)) → slice_get states m ≡ o → Contains (contents_at (holds_token g.terminals) o).reductions r → r.holds t ≡ true
          go None at d = absurd (Contains-none r d)
          go (Some old) at d =
              let q = contains_of_map (reduction_of (holds_token g.terminals)) old.reductions.items r d in
              let there = subst (λ (x : Reduction). IsCarried (productions g) start here m x.production (length x.production.symbols) t) (sym q.2) carried in
              ap (λ (x : Reduction). x.holds t) (sym q.2) ∙ reduction_holds m old at q.0 q.1 t there
