-- Steps back to the items of a state with a nonterminal after the dot, and the contribution of a
-- place whose dot is at the start.
use Rattle.std.proofs.Common.{◌≡◌, ℕ, suc, ◌+◌, ◌⊎◌, inl, inr, List, [], ◌∷◌, ◌++◌, drop, refl, sym, ◌∙◌, ap, subst, arith, true, Some, Option}
use Rattle.std.specs.Prelude.{Contains, slice_get}
use Rattle.lalrpop_base.specs.Words.{contents_at, IsFirst, IsNullable, Dotted, LeadsBack, to_parent, behind_parent, of_start, Contents, IsBehindDot, IsBitOf, Rules, rules_of}
use Rattle.lalrpop_grammar.specs.lanes.Lanes.{Gives}
use Rattle.lalrpop_lanes.proofs.Types.{NonterminalString, Production, State, Symbol, TerminalString, Token}
use Rattle.lalrpop_grammar.specs.declared.lookahead.token.Token.TheVariants.{Eof, Terminal as TokenOf}
use Rattle.lalrpop_grammar.specs.declared.repr.Symbol.TheVariants.{Nonterminal}
use Rattle.lalrpop_collections.proofs.theory.lists.Lists.{contains_of_map}
use Rattle.lalrpop_lanes.specs.Words.{Gains, Nothing, IsHere, IsEnd, IsEndBit, IsParent, IsFollowBit, IsPassedOn, symbols_after_next, Some_of}
use Rattle.lalrpop_base.specs.Words.{at_place, Visits}
use Rattle.lalrpop_lanes.specs.Words.{GivesCell, GivesBit, GivesSuccessor, GainsOf, GainsSome, GainsSomeOf, VisitsOf, AreInRange}
use Rattle.lalrpop_construction.specs.Words.{places_in}
use Rattle.lalrpop_lanes.specs.lanes.LaneSteps.{LeadsBackTo}
use Rattle.lalrpop_lanes.specs.declared.lane_table.lane.automaton.Automaton.{Automaton}
use Rattle.lalrpop_collections.specs.declared.collections.walk.Walk.{Walk}
use Rattle.lalrpop_lanes.specs.declared.lane_table.table.LaneTable.{LaneTable}
use Rattle.lalrpop_states.specs.declared.lr1_core.place.Place.{Place}
use Rattle.lr1_theory.proofs.theory.check.CheckSending.{same_place}
use Rattle.lalrpop_states.proofs.theory.closures.Closing.{drop_split, split_drop}
use Rattle.lalrpop_lanes.proofs.theory.lanes.Gains.{Gains-none, Gains-then}
use Rattle.lalrpop_lanes.proofs.theory.lanes.GainsSome.{GainsSome-last, GainsSome-then, GainsSome-all, GainsSome-wider}
use Rattle.lalrpop_collections.proofs.theory.lists.Members.{contains_map}
use Rattle.lalrpop_lanes.proofs.theory.lanes.SomeOf.{some_none, some_kept, some_last, some_cases}
use Rattle.lalrpop_lanes.proofs.theory.lanes.Unshifting.{back_cases}
use Rattle.lalrpop_collections.proofs.theory.collections.Walks.{Visits-none, Visits-then, Visits-same}

-- ---- the ways in which a place gives a token
module _ (g : List Production) (start : NonterminalString) (states : ℕ → Contents) where
  -- a terminal begins the symbols after the nonterminal in an item
  pub record IsBehindParent (s : ℕ) (p : Production) (t : Token) : Type 0 where
    pub production : Production
    pub dot : ℕ
    pub after : List Symbol
    pub terminal : TerminalString
    pub is : t ≡ TokenOf terminal
    pub item : Contains (states s).items (production, dot)
    pub behind : drop dot production.symbols ≡ Nonterminal p.nonterminal ∷ after
    pub first : IsFirst g after terminal

  pub gives_cases : {s : ℕ} {p : Production} {i : ℕ} {t : Token} → Gives g start states s p i t → IsBehindParent s p t ⊎ ((t ≡ Eof) × (p.nonterminal ≡ start))
  gives_cases (behind_parent s p q dot after t c b f) = inl (record { production = q; dot = dot; after = after; terminal = t; is = refl; item = c; behind = b; first = f })
  gives_cases (of_start s p e) = inr (refl, e)

-- ---- the items in turn
module _ (g : Rules) {L : Type 0} (name : NonterminalString) (state k : ℕ) where
  abbrev Cell : ℕ → Dotted L → Type 0
  Cell row item = IsHere state (IsParent name item) row

  abbrev Bit : ℕ → ℕ → Dotted L → Type 0
  Bit row bit item = IsHere state (IsFollowBit g name item bit) row

  abbrev Passed : Place → Dotted L → Type 0
  Passed p item = IsPassedOn g name state item p

  -- the items so far gave their tokens and places
  pub record IsFollowing (items : List (Dotted L)) (old new : LaneTable) (start now : Walk Place) : Type 0 where
    pub gains : Gains k (λ row. Some_of (Cell row) items) (λ row bit. Some_of (Bit row bit) items) Nothing old new
    pub visits : Visits (λ p. Some_of (Passed p) items) start now
    pub columns : new.conflicts ≡ old.conflicts
    pub in_range : AreInRange old → AreInRange new

  pub Following-start : (table : LaneTable) (walk : Walk Place) → IsFollowing [] table table walk walk
  Following-start table walk = record {
    gains = Gains-none k (λ row. Some_of (Cell row) []) (λ row bit. Some_of (Bit row bit) []) Nothing table (λ row h. some_none (Cell row) h) (λ row bit h. some_none (Bit row bit) h) (λ l r h. h);
    visits = Visits-none (λ p. Some_of (Passed p) []) walk (λ p h. some_none (Passed p) h);
    columns = refl;
    in_range = λ h. h;
  }

  pub Following-more : (items : List (Dotted L)) (item : Dotted L) (a b c : LaneTable) (t u v : Walk Place) → Gains k (IsHere state (IsParent name item)) (λ row bit. IsHere state (IsFollowBit g name item bit) row) Nothing b c → Visits (IsPassedOn g name state item) u v → c.conflicts ≡ b.conflicts → (AreInRange b → AreInRange c) →
      IsFollowing items a b t u → IsFollowing (items ++ item ∷ []) a c t v
  Following-more items item a b c t u v gains visits columns in_range h = record {
    gains = Gains-then k (λ row. Some_of (Cell row) items) (IsHere state (IsParent name item)) (λ row. Some_of (Cell row) (items ++ item ∷ [])) (λ row bit. Some_of (Bit row bit) items) (λ row bit. IsHere state (IsFollowBit g name item bit) row) (λ row bit. Some_of (Bit row bit) (items ++ item ∷ [])) Nothing Nothing Nothing
        (λ row. some_kept (Cell row) items item) (λ row. some_last (Cell row) items item) (λ row. some_cases (Cell row) items item) (λ row bit. some_kept (Bit row bit) items item) (λ row bit. some_last (Bit row bit) items item) (λ row bit. some_cases (Bit row bit) items item)
        (λ l r n. n) (λ l r n. n) (λ l r n. inl n) a b c h.gains gains;
    visits = Visits-then (λ p. Some_of (Passed p) items) (IsPassedOn g name state item) (λ p. Some_of (Passed p) (items ++ item ∷ [])) (λ p. some_kept (Passed p) items item) (λ p. some_last (Passed p) items item) (λ p. some_cases (Passed p) items item) t u v h.visits visits;
    columns = columns ∙ h.columns;
    in_range = λ r. in_range (h.in_range r);
  }

-- ---- all items of the state
module _ {L : Type 0} (states : List (State L)) (n : ℕ) (s : State L) (there : slice_get states n ≡ Some s) where
  abbrev Here : Contents
  Here = contents_at (λ (lookahead : L) (t : Token). true) (Some s)

  contents_here : places_in states n ≡ Here
  contents_here = ap (λ (o : Option (State L)). contents_at (λ (lookahead : L) (t : Token). true) o) there

  -- the item has the nonterminal after its dot
  pub record HasParent (a : NonterminalString) (q : Production) (dot : ℕ) (after : List Symbol) : Type 0 where
    pub item : Dotted L
    pub among : Contains s.items.vec.items item
    pub parent : IsParent a item
    pub production : item.production ≡ q
    pub index : item.index ≡ dot
    pub rest : symbols_after_next item ≡ after

  cut : (d : ℕ) (xs ys : List Symbol) (x : Symbol) → drop d xs ≡ x ∷ ys → drop (suc d) xs ≡ ys
  cut d xs ys x e =
      let split = drop_split d xs x (split_drop d xs x ys e) in
      tails (drop (suc d) xs) ys (sym split ∙ e)
    where
      tails : (k l : List Symbol) → x ∷ k ≡ x ∷ l → k ≡ l
      tails k l e = cc

  pub parent_item : (a : NonterminalString) (q : Production) (dot : ℕ) (after : List Symbol) → Contains (places_in states n).items (q, dot) → drop dot q.symbols ≡ Nonterminal a ∷ after → HasParent a q dot after
  parent_item a q dot after c b =
      let f = contains_of_map (λ (i : Dotted L). (i.production, i.index)) s.items.vec.items (q, dot) (subst (λ (h : Contents). Contains h.items (q, dot)) contents_here c) in
      let p : (f.0).production ≡ q = ap (λ (d : Production × ℕ). d.0) f.2 in
      let i : (f.0).index ≡ dot = ap (λ (d : Production × ℕ). d.1) f.2 in
      let behind : drop (f.0).index (f.0).production.symbols ≡ Nonterminal a ∷ after = ap (λ (d : Production × ℕ). drop d.1 d.0.symbols) f.2 ∙ b in
      let one : (f.0).index + 1 ≡ suc (f.0).index = omega arith in
      record {
        item = f.0;
        among = f.1;
        parent = split_drop (f.0).index (f.0).production.symbols (Nonterminal a) after behind;
        production = p;
        index = i;
        rest = ap (λ (m : ℕ). drop m (f.0).production.symbols) one ∙ cut (f.0).index (f.0).production.symbols after (Nonterminal a) behind;
      }

  pub item_there : (item : Dotted L) → Contains s.items.vec.items item → Contains (places_in states n).items (item.production, item.index)
  item_there item c = subst (λ (h : Contents). Contains h.items (item.production, item.index)) (sym contents_here) (contains_map (λ (i : Dotted L). (i.production, i.index)) s.items.vec.items item c)

  pub item_behind : (a : NonterminalString) (item : Dotted L) → IsParent a item → drop item.index item.production.symbols ≡ Nonterminal a ∷ symbols_after_next item
  item_behind a item parent =
      let one : suc item.index ≡ item.index + 1 = omega arith in
      drop_split item.index item.production.symbols (Nonterminal a) parent ∙ ap (λ (m : ℕ). Nonterminal a ∷ drop m item.production.symbols) one

module _ {L : Type 0} (automaton : Automaton L) (place : Place) (s : State L) (there : slice_get automaton.states.now place.state ≡ Some s) (begun : place.item.index ≡ 0) where
  abbrev R : Rules
  R = rules_of automaton.grammar.now

  abbrev S : ℕ → Contents
  S = places_in automaton.states.now

  abbrev a : NonterminalString
  a = place.item.production.nonterminal

  abbrev items : List (Dotted L)
  items = s.items.vec.items

  -- ---- cells
  cell_end : (row : ℕ) → IsEnd automaton.start.now a place.state row → GivesCell R automaton.start.now S place row
  cell_end row h = record { here = h.here; begun = begun; given = inl h.fact }

  cell_parent : (row : ℕ) → Some_of (λ (i : Dotted L). IsHere place.state (IsParent a i) row) items → GivesCell R automaton.start.now S place row
  cell_parent row m = record {
    here = (m.2).here;
    begun = begun;
    given = inr (subst (λ (n : ℕ). IsBehindDot (S n) (Nonterminal a)) (m.2).here (record {
      production = (m.0).production;
      dot = (m.0).index;
      after = symbols_after_next m.0;
      item = item_there automaton.states.now place.state s there m.0 m.1;
      behind = item_behind automaton.states.now place.state s there a m.0 (m.2).fact;
    }));
  }

  cell_cases : (row : ℕ) → GivesCell R automaton.start.now S place row → IsEnd automaton.start.now a place.state row ⊎ Some_of (λ (i : Dotted L). IsHere place.state (IsParent a i) row) items
  cell_cases row h = elim h.given [
    | inl e ↦ inl (record { here = h.here; fact = e })
    | inr b ↦
        let here : Contains (S place.state).items (b.production, b.dot) = subst (λ (n : ℕ). Contains (S n).items (b.production, b.dot)) (sym h.here) b.item in
        let p = parent_item automaton.states.now place.state s there a b.production b.dot b.after here b.behind in
        inr (p.item, p.among, record { here = h.here; fact = p.parent })
  ]

  -- ---- bits
  bit_end : (row bit : ℕ) → IsEndBit R automaton.start.now a place.state row bit → GivesBit R automaton.start.now S place row bit
  bit_end row bit h = record {
    here = h.here;
    token = Eof;
    number = h.fact.1;
    gives = subst (λ (i : ℕ). Gives R.productions automaton.start.now S row place.item.production i Eof) (sym begun) (of_start row place.item.production h.fact.0);
  }

  bit_parent : (row bit : ℕ) → Some_of (λ (i : Dotted L). IsHere place.state (IsFollowBit R a i bit) row) items → GivesBit R automaton.start.now S place row bit
  bit_parent row bit m =
      let f = (m.2).fact in
      record {
        here = (m.2).here;
        token = TokenOf f.terminal;
        number = f.number;
        gives = subst (λ (i : ℕ). Gives R.productions automaton.start.now S row place.item.production i (TokenOf f.terminal)) (sym begun)
            (behind_parent row place.item.production (m.0).production (m.0).index (symbols_after_next m.0) f.terminal (subst (λ (n : ℕ). Contains (S n).items ((m.0).production, (m.0).index)) (m.2).here (item_there automaton.states.now place.state s there m.0 m.1)) (item_behind automaton.states.now place.state s there a m.0 f.parent) f.first);
      }

  bit_cases : (row bit : ℕ) → GivesBit R automaton.start.now S place row bit → IsEndBit R automaton.start.now a place.state row bit ⊎ Some_of (λ (i : Dotted L). IsHere place.state (IsFollowBit R a i bit) row) items
  bit_cases row bit h = elim (gives_cases R.productions automaton.start.now S h.gives) [
    | inl b ↦
        let here : Contains (S place.state).items (b.production, b.dot) = subst (λ (n : ℕ). Contains (S n).items (b.production, b.dot)) (sym h.here) b.item in
        let p = parent_item automaton.states.now place.state s there a b.production b.dot b.after here b.behind in
        inr (
          p.item,
          p.among,
          record {
            here = h.here;
            fact = record {
              parent = p.parent;
              terminal = b.terminal;
              number = subst (λ (t : Token). IsBitOf R.terminals t bit) b.is h.number;
              first = subst (λ (l : List Symbol). IsFirst R.productions l b.terminal) (sym p.rest) b.first;
            };
          },
        )
    | inr e ↦ inl (record { here = h.here; fact = (e.1, subst (λ (t : Token). IsBitOf R.terminals t bit) e.0 h.number) })
  ]

  -- ---- places
  led_parent : (k : Place) → Some_of (λ (i : Dotted L). IsPassedOn R a place.state i k) items → LeadsBackTo R automaton.start.now S place k
  led_parent k m = subst (λ (z : Place). LeadsBackTo R automaton.start.now S place z) (m.2).is
      (subst (λ (i : ℕ). LeadsBack R.productions S place.state place.item.production i place.state (m.0).production (m.0).index) (sym begun)
      (to_parent place.state place.item.production (m.0).production (m.0).index (symbols_after_next m.0) (item_there automaton.states.now place.state s there m.0 m.1) (item_behind automaton.states.now place.state s there a m.0 (m.2).parent) (m.2).nullable))

  led_cases : (k : Place) → LeadsBackTo R automaton.start.now S place k → Some_of (λ (i : Dotted L). IsPassedOn R a place.state i k) items
  led_cases k b = elim (back_cases R.productions S b) [
    | inl o ↦ absurd (let m = o.moved in omega (arith, begun, m))
    | inr t ↦
        let p = parent_item automaton.states.now place.state s there a k.item.production k.item.index t.after t.item t.behind in (
          p.item,
          p.among,
          record {
            parent = p.parent;
            nullable = subst (IsNullable R.productions) (sym p.rest) t.nullable;
            is = same_place (at_place place.state (p.item).production (p.item).index) k (sym t.here) p.production p.index;
          },
        )
  ]

  module _ (k : ℕ) (name : NonterminalString) (is : name ≡ a) (old middle new : LaneTable) (start now : Walk Place) (ended : Gains k (IsEnd automaton.start.now name place.state) (IsEndBit R automaton.start.now name place.state) Nothing old middle) (h : IsFollowing R name place.state k items middle new start now) where
    pub Unepsilon-gains : GainsOf automaton place k old new
    Unepsilon-gains =
        let first = subst (λ (x : NonterminalString). Gains k (IsEnd automaton.start.now x place.state) (IsEndBit R automaton.start.now x place.state) Nothing old middle) is ended in
        let second = subst (λ (x : NonterminalString). Gains k (λ row. Some_of (λ (i : Dotted L). IsHere place.state (IsParent x i) row) items) (λ row bit. Some_of (λ (i : Dotted L). IsHere place.state (IsFollowBit R x i bit) row) items) Nothing middle new) is h.gains in
        Gains-then k (IsEnd automaton.start.now a place.state) (λ row. Some_of (λ (i : Dotted L). IsHere place.state (IsParent a i) row) items) (GivesCell R automaton.start.now S place) (IsEndBit R automaton.start.now a place.state) (λ row bit. Some_of (λ (i : Dotted L). IsHere place.state (IsFollowBit R a i bit) row) items) (GivesBit R automaton.start.now S place) Nothing Nothing (GivesSuccessor R automaton.start.now S place)
        cell_end cell_parent cell_cases bit_end bit_parent bit_cases (λ l r n. absurd n) (λ l r n. absurd n) (λ l r g. absurd (let m = g.moved in omega (arith, begun, m))) old middle new first second

    pub Unepsilon-visits : VisitsOf automaton place start now
    Unepsilon-visits =
        let v = subst (λ (x : NonterminalString). Visits (λ p. Some_of (λ (i : Dotted L). IsPassedOn R x place.state i p) items) start now) is h.visits in
        Visits-same (λ p. Some_of (λ (i : Dotted L). IsPassedOn R a place.state i p) items) (LeadsBackTo R automaton.start.now S place) led_parent led_cases start now v

  -- Eof was added, and the items so far were gained; if the step of the next one fails, a part of
  -- it was gained
  module _ (k : ℕ) (name : NonterminalString) (is : name ≡ a) (old middle now new : LaneTable) (start walk : Walk Place) (done : List (Dotted L)) (item : Dotted L) (among : (i : Dotted L) → Contains done i → Contains items i) (this : Contains items item) where
    pub Unepsilon-part : Gains k (IsEnd automaton.start.now name place.state) (IsEndBit R automaton.start.now name place.state) Nothing old middle → IsFollowing R name place.state k done middle now start walk →
        GainsSome k (IsHere place.state (IsParent name item)) (λ row bit. IsHere place.state (IsFollowBit R name item bit) row) Nothing now new → GainsSomeOf automaton place k old new
    Unepsilon-part ended h part =
        let first = subst (λ (x : NonterminalString). Gains k (IsEnd automaton.start.now x place.state) (IsEndBit R automaton.start.now x place.state) Nothing old middle) is ended in
        let second = subst (λ (x : NonterminalString). Gains k (λ row. Some_of (λ (i : Dotted L). IsHere place.state (IsParent x i) row) done) (λ row bit. Some_of (λ (i : Dotted L). IsHere place.state (IsFollowBit R x i bit) row) done) Nothing middle now) is h.gains in
        let third = subst (λ (x : NonterminalString). GainsSome k (IsHere place.state (IsParent x item)) (λ row bit. IsHere place.state (IsFollowBit R x item bit) row) Nothing now new) is part in
        GainsSome-then k (GivesCell R automaton.start.now S place) (GivesBit R automaton.start.now S place) (GivesSuccessor R automaton.start.now S place) old middle new
        (GainsSome-wider k (IsEnd automaton.start.now a place.state) (GivesCell R automaton.start.now S place) (IsEndBit R automaton.start.now a place.state) (GivesBit R automaton.start.now S place) Nothing (GivesSuccessor R automaton.start.now S place) cell_end bit_end (λ l r n. absurd n) old middle
        (GainsSome-all k (IsEnd automaton.start.now a place.state) (IsEndBit R automaton.start.now a place.state) Nothing old middle first))
        (GainsSome-last k (λ row. Some_of (λ (i : Dotted L). IsHere place.state (IsParent a i) row) done) (IsHere place.state (IsParent a item)) (GivesCell R automaton.start.now S place) (λ row bit. Some_of (λ (i : Dotted L). IsHere place.state (IsFollowBit R a i bit) row) done) (λ row bit. IsHere place.state (IsFollowBit R a item bit) row) (GivesBit R automaton.start.now S place) Nothing Nothing (GivesSuccessor R automaton.start.now S place)
        (λ row m. cell_parent row (m.0, among m.0 m.1, m.2)) (λ row c. cell_parent row (item, this, c)) (λ row bit m. bit_parent row bit (m.0, among m.0 m.1, m.2)) (λ row bit b. bit_parent row bit (item, this, b)) (λ l r n. absurd n) (λ l r n. absurd n) middle now new second third)
