-- The loop that carries tokens over the edges of states.
use Rattle.std.proofs.Common.{◌≡◌, ◌↔◌, ◌<◌, ◌≤◌, ◌+◌, ◌-◌, ◌*◌, ℕ, zero, suc, ◌⊎◌, inl, inr, List, [], ◌∷◌, ◌++◌, length, map, drop, refl, sym, ◌∙◌, ap, subst, arith, true, ◌||◌, eq-eqb, Option, Some, None}
use Rattle.std.specs.Prelude.{Contains, slice_get}
use Rattle.std.specs.Map.{keys_of}
use Rattle.std.proofs.lemmas.List.{length-map}
use Rattle.std.proofs.lemmas.List.Elements.{Contains-append_left, Contains-append_right}
use Rattle.std.proofs.lemmas.List.Sums.{sum_by-cons}
use Rattle.lalrpop_base.specs.Words.{Bits, has, no_bits, with_bit, has-with_bit, InClosure, in_kernel, expanded, IsAtStart, IsMoved, items_of, AreClosed, IsReached}
use Rattle.lalrpop_base.specs.Words.{at_zero, IsCarried, eof_at_start, over, first_of_rest, through_rest, contents, contents_at, holds_token, IsFirstSetBefore}
use Rattle.lalrpop_base.specs.Words.{IsNullable, AllDiffer, Contents, leads, FitsTokens, Rules, IsWellFormed, productions, productions_of, rules_of}
use Rattle.lalrpop_base.specs.Words.{HasKnownTerminals, AreOwn, Begins, count, IsFound, burden, AllBelow, IsBelow, Carried, at_place, target_from, target_in, Sends}
use Rattle.lalrpop_base.specs.Words.{IsPlaceAtStart, IsOver, IsInto, CarriesFromPlace, IsCarriedTo, AreCarriedTo, HasPropagatedIn, HasStarted, AreCarried, item_at_start, IsClosedAt}
use Rattle.lalrpop_grammar.specs.closures.Closures.{over_edge}
use Rattle.lalrpop_check.proofs.Types.{Grammar, NonterminalString, Production, State, Symbol, Token}
use Rattle.lalrpop_grammar.specs.declared.lookahead.token.Token.TheVariants.{Eof, Error, Terminal as TokenOf}
use Rattle.lalrpop_grammar.specs.declared.repr.Symbol.TheVariants.{Nonterminal, Terminal}
use Rattle.lalrpop_states.proofs.theory.states.HeldTokens.{place_there}
use Rattle.lalrpop_states.specs.states.Items.{dots}
use Rattle.lalrpop_states.specs.declared.lr1_core.place.Place.{Place}
use Rattle.lalrpop_construction.proofs.theory.canonical.Canonical.{start_tokens}
use Rattle.lr1_theory.proofs.theory.check.CheckSending.{Entry, same_place}
use Rattle.lalrpop_states.proofs.theory.closures.Closing.{drop_split, split_drop}
use Rattle.lalrpop_grammar.proofs.theory.grammars.Grammars.{productions_among, productions_named, known_symbols, known_rest, same_after}
use Rattle.lalrpop_states.proofs.theory.grammars.KnownTerminals.{token_bit, held_bit, bit_held, holds_more, begun_bit}
use Rattle.lalrpop_collections.proofs.theory.lists.Growth.{entry_key, key_entry, found_kept, bit_kept}
use Rattle.lalrpop_collections.proofs.theory.lists.Members.{Contains-none, contains_tail, contains-cons, contains_map, pigeonhole}
use Rattle.lalrpop_construction.proofs.theory.construction.Lookaheads.{eof_fits}
use Rattle.lalrpop_collections.proofs.theory.lists.Places.{apart_from_differ, same_some}
use Rattle.lalrpop_collections.proofs.theory.sets.Subsets.{count_few}
use Rattle.lalrpop_collections.proofs.theory.lists.Updates.{one_value}

-- ---- all places
pub places_of : ℕ → List (State Bits) → List Place
places_of k [] = []
places_of k (s ∷ ss) = map (λ (d : Production × ℕ). at_place k d.0 d.1) (dots s.items.vec.items) ++ places_of (suc k) ss

in_places : (k n : ℕ) (ss : List (State Bits)) (s : State Bits) (p : Production) (dot : ℕ) → slice_get ss n ≡ Some s → Contains (dots s.items.vec.items) (p, dot) → Contains (places_of k ss) (at_place (k + n) p dot)
unfolding places_of
in_places k n [] s p dot at c = cc
in_places k zero (t ∷ ss) s p dot at c =
    let e : k ≡ k + 0 = omega arith in
    let here = contains_map (λ (d : Production × ℕ). at_place k d.0 d.1) (dots t.items.vec.items) (p, dot) (subst (λ (x : State Bits). Contains (dots x.items.vec.items) (p, dot)) (sym (same_some t s at)) c) in
    subst (λ (m : ℕ). Contains (places_of k (t ∷ ss)) (at_place m p dot)) e (Contains-append_left (map (λ (d : Production × ℕ). at_place k d.0 d.1) (dots t.items.vec.items)) (places_of (suc k) ss) (at_place k p dot) here)
in_places k (suc n) (t ∷ ss) s p dot at c =
    let e : suc k + n ≡ k + suc n = omega arith in
    subst (λ (m : ℕ). Contains (places_of k (t ∷ ss)) (at_place m p dot)) e (Contains-append_right (map (λ (d : Production × ℕ). at_place k d.0 d.1) (dots t.items.vec.items)) (places_of (suc k) ss) (at_place (suc k + n) p dot) (in_places (suc k) n ss s p dot at c))

burden_le : (n : ℕ) (table : Carried) → burden n table ≤ length table * (n + 1)
burden_le n [] = omega arith
burden_le n (e ∷ es) =
    let f : Entry → ℕ = λ e. 1 + count n e.1 in
    let r = burden_le n es in
    let c = count_few n e.1 in
    let w = sum_by-cons f e es in
    omega arith

-- a token is in the given set if it begins the rest, or if the rest is nullable and the token is in
-- the follow set
given_cases : (g : Rules) (rest : List Symbol) (follow given : Bits) → IsFirstSetBefore g rest follow given → (t : Token) (bit : ℕ) → token_bit g.terminals t ≡ Some bit → (has given bit ≡ true) ↔ (Begins g rest t ⊎ (IsNullable g.productions rest × (has follow bit ≡ true)))
given_cases g rest follow given first Eof bit e =
    let at : length g.terminals ≡ bit = same_some (length g.terminals) bit e in
    let o = first.others bit (omega arith) in
    (λ h. inr (o.0 h), λ h. elim h [ inl none ↦ absurd none | inr k ↦ o.1 k ])
given_cases g rest follow given first Error bit e =
    let at : length g.terminals + 1 ≡ bit = same_some (length g.terminals + 1) bit e in
    let o = first.others bit (omega arith) in
    (λ h. inr (o.0 h), λ h. elim h [ inl none ↦ absurd none | inr k ↦ o.1 k ])
given_cases g rest follow given first (TokenOf t) bit e = first.begins bit t (place_there g.terminals t bit e)

module _ (g : Grammar) (start : NonterminalString) (states : List (State Bits)) where
  abbrev pub S : ℕ → Contents
  S = contents g.terminals states

  leads_at : (o : Option (State Bits)) (x : Symbol) → leads (contents_at (holds_token g.terminals) o) x ≡ target_from o x
  leads_at None (Nonterminal a) = refl
  leads_at None (Terminal t) = refl
  leads_at (Some s) (Nonterminal a) = refl
  leads_at (Some s) (Terminal t) = refl

  pub leads_in : (n : ℕ) (x : Symbol) → leads (S n) x ≡ target_in states n x
  leads_in n x = leads_at (slice_get states n) x

  item_state : (o : Option (State Bits)) (p : Production) (dot : ℕ) → Contains (contents_at (holds_token g.terminals) o).items (p, dot) → (s : State Bits) × (o ≡ Some s) × Contains (dots s.items.vec.items) (p, dot)
  item_state None p dot c = absurd (Contains-none (p, dot) c)
  item_state (Some s) p dot c = (s, refl, c)

  pub limit : ℕ
  limit = length (places_of 0 states) * (length g.terminals + 2 + 1)

  -- the carried tokens are sound, and each place waits or is settled
  pub record IsCarrying (table : Carried) (queue : List Place) : Type 0 where
    pub sound : AreCarriedTo g start states table
    pub started : HasStarted g start table
    pub done : (e : Entry) → Contains table e → Contains queue e.0 ⊎ IsClosedAt g states table e.0 e.1
    pub found : (k : Place) → Contains queue k → Contains (keys_of table) k
    pub differ : AllDiffer (keys_of table)

  few : (table : Carried) → AreCarriedTo g start states table → AllDiffer (keys_of table) → burden (length g.terminals + 2) table ≤ limit
  unfolding limit
  few table sound differ =
      let n = pigeonhole (keys_of table) (places_of 0 states) (apart_from_differ (keys_of table) differ) (λ k c.
      let e = key_entry table k c in
      let h = sound (k, e.0) e.1 in
      let s = item_state (slice_get states k.state) k.item.production k.item.index h.listed in
      let at = in_places 0 k.state states s.0 k.item.production k.item.index s.1 s.2 in
      let zero_plus : 0 + k.state ≡ k.state = omega arith in
      subst (Contains (places_of 0 states)) (same_place (at_place (0 + k.state) k.item.production k.item.index) k zero_plus refl refl) at) in
      let l = length-map table (λ (e : Entry). e.0) in
      let b = burden_le (length g.terminals + 2) table in
      let m : length table ≤ length (places_of 0 states) = omega arith in
      let k : length table * (length g.terminals + 2 + 1) ≤ length (places_of 0 states) * (length g.terminals + 2 + 1) = mul_le (length table) (length (places_of 0 states)) (length g.terminals + 2 + 1) m in
      omega arith
    where
      mul_le : (a b c : ℕ) → a ≤ b → a * c ≤ b * c
      mul_le a b c h = grind arith

  pub work : Carried → List Place → ℕ
  work table queue = limit + length queue - burden (length g.terminals + 2) table

  below : (s : Bits) → FitsTokens g.terminals s → IsBelow (length g.terminals + 2) s
  below s f q h = let l = f q h in omega arith

  all_below : (table : Carried) → AreCarriedTo g start states table → AllBelow (length g.terminals + 2) table
  all_below table sound e c = below e.1 (sound e c).fits

  -- ---- sent tokens are sound
  sends_sound : (Such : Place → Type 0) (tokens : Bits) (old new : Carried) (queue pushed : List Place) → Sends Such tokens old new queue pushed → ((k : Place) → Such k → IsCarriedTo g start states k tokens) → AreCarriedTo g start states old → AreCarriedTo g start states new
  sends_sound Such tokens old new queue pushed s such sound e c = record {
    reached = elim (s.adds.keys e c) [ inl o ↦ (let f = key_entry old e.0 o in (sound (e.0, f.0) f.1).reached) | inr n ↦ (such e.0 n).reached ];
    listed = elim (s.adds.keys e c) [ inl o ↦ (let f = key_entry old e.0 o in (sound (e.0, f.0) f.1).listed) | inr n ↦ (such e.0 n).listed ];
    carried = λ t h.
        let b = held_bit g.terminals e.1 t h in
        elim (s.adds.bits e b.0 c b.2) [
          | inl o ↦ (sound (e.0, o.set) o.entry).carried t (bit_held g.terminals o.set t b.0 b.1 o.there)
          | inr n ↦ (such e.0 n.0).carried t (bit_held g.terminals tokens t b.0 b.1 n.1)
        ];
    fits = λ bit h. elim (s.adds.bits e bit c h) [ inl o ↦ (sound (e.0, o.set) o.entry).fits bit o.there | inr n ↦ (such e.0 n.0).fits bit n.1 ];
  }

  module _ (well : IsWellFormed g) (own : AreOwn g) (closed : AreClosed (productions g) start S) where
    expanded_item : {n : ℕ} → IsReached S n → (p q : Production) (dot : ℕ) (after : List Symbol) → items_of S n p dot → drop dot p.symbols ≡ Nonterminal q.nonterminal ∷ after → Contains (productions g) q → items_of S n q 0
    expanded_item at_zero p q dot after i b c = (closed.first q 0).1 (expanded q after ((closed.first p dot).0 i) b c)
    expanded_item (over_edge {n} m x r e) p q dot after i b c = (closed.next n m x e q 0).1 (expanded q after ((closed.next n m x e p dot).0 i) b c)

    sound_over : (place k : Place) (tokens : Bits) → IsCarriedTo g start states place tokens → IsOver states place k → IsCarriedTo g start states k tokens
    sound_over place k tokens h o =
        let p = place.item.production in
        let dot = place.item.index in
        let edge : leads (S place.state) o.symbol ≡ Some o.to = leads_in place.state o.symbol ∙ o.edge in
        let one : suc dot ≡ dot + 1 = omega arith in
        let behind = drop_split dot p.symbols o.symbol o.behind in
        subst (λ (x : Place). IsCarriedTo g start states x tokens) o.is (record {
          reached = over_edge o.to o.symbol h.reached edge;
          listed = subst (λ (n : ℕ). items_of S o.to p n) one ((closed.next place.state o.to o.symbol edge p (suc dot)).1 (in_kernel (record { before = dot; after = drop (suc dot) p.symbols; moved = refl; item = h.listed; behind = behind })));
          carried = λ t held. subst (λ (n : ℕ). IsCarried (productions g) start S o.to p n t) one (over o.to o.symbol (drop (suc dot) p.symbols) (h.carried t held) edge behind);
          fits = h.fits;
        })

    module _ (place : Place) (tokens given : Bits) (h : IsCarriedTo g start states place tokens) (first : (name : NonterminalString) → slice_get place.item.production.symbols place.item.index ≡ Some (Nonterminal name) → IsFirstSetBefore (rules_of g) (drop (place.item.index + 1) place.item.production.symbols) tokens given) (fits : FitsTokens g.terminals tokens → FitsTokens g.terminals given) where
      abbrev rest : List Symbol
      rest = drop (place.item.index + 1) place.item.production.symbols

      rest_behind : (name : NonterminalString) → slice_get place.item.production.symbols place.item.index ≡ Some (Nonterminal name) → drop place.item.index place.item.production.symbols ≡ Nonterminal name ∷ rest
      rest_behind name b =
          let one : suc place.item.index ≡ place.item.index + 1 = omega arith in
          drop_split place.item.index place.item.production.symbols (Nonterminal name) b ∙ ap (λ (n : ℕ). Nonterminal name ∷ drop n place.item.production.symbols) one

      begun_carried : (t : Token) (k : Place) → (behind : drop place.item.index place.item.production.symbols ≡ Nonterminal k.item.production.nonterminal ∷ rest) → Contains (productions g) k.item.production → Begins (rules_of g) rest t → IsCarried (productions g) start S place.state k.item.production 0 t
      begun_carried Eof k behind among b = absurd b
      begun_carried Error k behind among b = absurd b
      begun_carried (TokenOf t) k behind among b = first_of_rest k.item.production rest h.reached h.listed behind among b

      pub sound_into : (k : Place) → IsInto g place k → IsCarriedTo g start states k given
      sound_into k i =
          let among = productions_among g i.name k.item.production i.begun.among in
          let named = productions_named g well i.name k.item.production i.begun.among in
          let behind : drop place.item.index place.item.production.symbols ≡ Nonterminal k.item.production.nonterminal ∷ rest = rest_behind i.name i.behind ∙ ap (λ (a : NonterminalString). Nonterminal a ∷ rest) (sym named) in
          let is : at_place place.state k.item.production 0 ≡ k = same_place (at_place place.state k.item.production 0) k (sym i.begun.state) refl (sym i.begun.start) in
          subst (λ (x : Place). IsCarriedTo g start states x given) is (record {
            reached = h.reached;
            listed = expanded_item h.reached place.item.production k.item.production place.item.index rest h.listed behind among;
            carried = λ t held.
                let b = held_bit g.terminals given t held in
                elim ((given_cases (rules_of g) rest tokens given (first i.name i.behind) t b.0 b.1).0 b.2) [
                  | inl begins ↦ begun_carried t k behind among begins
                  | inr n ↦ through_rest k.item.production rest (h.carried t (bit_held g.terminals tokens t b.0 b.1 n.1)) behind among n.0
                ];
            fits = fits h.fits;
          })

      pub settles_into : (old new : Carried) (queue pushed : List Place) → Sends (IsInto g place) given old new queue pushed → Contains (productions g) place.item.production → (q : Production) (after : List Symbol) → drop place.item.index place.item.production.symbols ≡ Nonterminal q.nonterminal ∷ after → Contains (productions g) q → HasPropagatedIn g new place.state q after tokens
      settles_into old new queue pushed s known q after behind among =
          let b = split_drop place.item.index place.item.production.symbols (Nonterminal q.nonterminal) after behind in
          let same : after ≡ rest = same_after q.nonterminal q.nonterminal after rest (sym behind ∙ rest_behind q.nonterminal b) in
          let there = s.adds.there (at_place place.state q 0) (record { name = q.nonterminal; behind = b; begun = record { state = refl; start = refl; among = own q among } }) in
          let all_known : (p : Production) → Contains (productions g) p → HasKnownTerminals g.terminals p.symbols = λ p c. known_symbols g p well c in
          let rest_known = known_rest g.terminals (place.item.index + 1) place.item.production.symbols rest (all_known place.item.production known) refl in
          record {
            set = there.set;
            entry = there.entry;
            begins = λ t begins.
                let f : Begins (rules_of g) rest t = subst (λ (l : List Symbol). Begins (rules_of g) l t) same begins in
                let bit = begun_bit (rules_of g) all_known rest rest_known t f in
                bit_held g.terminals there.set t bit.0 bit.1 (there.all bit.0 ((given_cases (rules_of g) rest tokens given (first q.nonterminal b) t bit.0 bit.1).1 (inl f)));
            inherits = λ n t held.
                let bit = held_bit g.terminals tokens t held in
                bit_held g.terminals there.set t bit.0 bit.1 (there.all bit.0 ((given_cases (rules_of g) rest tokens given (first q.nonterminal b) t bit.0 bit.1).1 (inr (subst (IsNullable (productions g)) same n, bit.2))));
          }

    -- ---- the loop
    settled_kept : (old new : Carried) → ((e : Entry) → Contains old e → IsFound new e.0 e.1) → (place : Place) (tokens : Bits) → IsClosedAt g states old place tokens → IsClosedAt g states new place tokens
    settled_kept old new kept place tokens s = record {
      over = λ k o. found_kept old new kept k tokens (s.over k o);
      into = λ q after behind among.
          let b = s.into q after behind among in
          let f = kept (at_place place.state q 0, b.set) b.entry in
          record {
            set = f.set;
            entry = f.entry;
            begins = λ t h. holds_more g.terminals b.set f.set t f.all (b.begins t h);
            inherits = λ n t h. holds_more g.terminals b.set f.set t f.all (b.inherits n t h);
          };
    }

    module _ (place : Place) (old new : Carried) (queue pushed : List Place) (c : IsCarrying old (place ∷ queue)) (known : Contains (productions g) place.item.production) (v : CarriesFromPlace g states place old new queue pushed) where
      here : IsCarriedTo g start states place v.tokens
      here = c.sound (place, v.tokens) v.entry

      middle_sound : AreCarriedTo g start states v.middle
      middle_sound = sends_sound (IsOver states place) v.tokens old v.middle queue v.waiting v.over (λ k o. sound_over place k v.tokens here o) c.sound

      new_sound : AreCarriedTo g start states new
      new_sound = sends_sound (IsInto g place) v.given v.middle new v.waiting pushed v.into (sound_into place v.tokens v.given here v.first v.fits) middle_sound

      kept_on : (e : Entry) → Contains old e → IsFound new e.0 e.1
      kept_on e o = found_kept v.middle new v.into.adds.grows.kept e.0 e.1 (v.over.adds.grows.kept e o)

      settled_here : IsClosedAt g states new place v.tokens
      settled_here = record {
        over = λ k o. found_kept v.middle new v.into.adds.grows.kept k v.tokens (v.over.adds.there k o);
        into = settles_into place v.tokens v.given here v.first v.fits v.middle new v.waiting pushed v.into known;
      }

      popped : (e : Entry) → Contains old e → Contains (place ∷ queue) e.0 → Contains pushed e.0 ⊎ IsClosedAt g states new e.0 e.1
      popped e o on = elim (contains-cons place queue e.0 on) [
        | inr s ↦ inl (v.into.adds.grows.stays e.0 (v.over.adds.grows.stays e.0 s))
        | inl same ↦
            let tokens : v.tokens ≡ e.1 = one_value old c.differ place v.tokens e.1 v.entry (subst (λ (x : Place). Contains old (x, e.1)) (sym same) o) in
            inr (subst (λ (x : Place). IsClosedAt g states new x e.1) same (subst (IsClosedAt g states new place) tokens settled_here))
      ]

      pub Carrying-step : IsCarrying new pushed
      Carrying-step = record {
        sound = new_sound;
        started = λ p among named. bit_kept old new kept_on (at_place 0 p 0) (length g.terminals) (c.started p among named);
        done = λ e n. elim (v.into.adds.grows.changed e n) [
          | inl p ↦ inl p
          | inr m ↦ elim (v.over.adds.grows.changed e m) [
            | inl w ↦ inl (v.into.adds.grows.stays e.0 w)
            | inr o ↦ elim (c.done e o) [ inl on ↦ popped e o on | inr s ↦ inr (settled_kept old new kept_on e.0 e.1 s) ]
          ]
        ];
        found = λ k n. elim (v.into.found k n) [
          | inr key ↦ key
          | inl w ↦ elim (v.over.found k w) [
            | inl s ↦ (let e = key_entry old k (c.found k (contains_tail place queue k s)) in let f = kept_on (k, e.0) e.1 in entry_key new (k, f.set) f.entry)
            | inr m ↦ (let e = key_entry v.middle k m in let f = v.into.adds.grows.kept (k, e.0) e.1 in entry_key new (k, f.set) f.entry)
          ]
        ];
        differ = v.into.differ (v.over.differ c.differ);
      }

      pub Carrying-smaller : work new pushed < work old (place ∷ queue)
      unfolding work
      Carrying-smaller =
          let n = length g.terminals + 2 in
          let a = v.over.weighed n (below v.tokens here.fits) (all_below old c.sound) in
          let b = v.into.weighed n (below v.given (v.fits here.fits)) (all_below v.middle middle_sound) in
          let f = few old c.sound c.differ in
          let h = few new new_sound (v.into.differ (v.over.differ c.differ)) in
          omega arith

    -- ---- the start of the loop
    abbrev eof : Bits
    eof = with_bit no_bits (length g.terminals)

    start_carried : (k : Place) → IsPlaceAtStart 0 (productions_of g start) k → IsCarriedTo g start states k eof
    start_carried k b =
        let p = k.item.production in
        let among = productions_among g start p b.among in
        let named = productions_named g well start p b.among in
        let is : at_place 0 p 0 ≡ k = same_place (at_place 0 p 0) k (sym b.state) refl (sym b.start) in
        subst (λ (x : Place). IsCarriedTo g start states x eof) is (record {
          reached = at_zero;
          listed = (closed.first p 0).1 (in_kernel (refl, among, named));
          carried = λ t held.
              let only = (start_tokens g well own start p 0 t).0 (record { item = item_at_start eof p; there = contains_map (item_at_start eof) (productions_of g start) p b.among; is = refl; holds = held }) in
              subst (λ (u : Token). IsCarried (productions g) start S 0 p 0 u) (sym only.1) (eof_at_start p among named);
          fits = eof_fits g.terminals;
        })

    pub Carrying-start : (tokens : Bits) (empty table : Carried) (none queue : List Place) → tokens ≡ eof → empty ≡ [] → none ≡ [] → Sends (IsPlaceAtStart 0 (productions_of g start)) tokens empty table none queue → IsCarrying table queue
    Carrying-start tokens empty table none queue e f h s =
        let nothing : (x : Entry) → Contains empty x → ⊥ = λ x c. Contains-none x (subst (λ (xs : Carried). Contains xs x) f c) in
        record {
          sound = sends_sound (IsPlaceAtStart 0 (productions_of g start)) tokens empty table none queue s (λ k b. subst (IsCarriedTo g start states k) (sym e) (start_carried k b)) (λ x c. absurd (nothing x c));
          started = λ p among named.
              let t = s.adds.there (at_place 0 p 0) (record { state = refl; start = refl; among = subst (λ (a : NonterminalString). Contains (productions_of g a) p) named (own p among) }) in
              let own_bit : has eof (length g.terminals) ≡ true = has-with_bit no_bits (length g.terminals) (length g.terminals) ∙ ap (λ b. b || has no_bits (length g.terminals)) (eq-eqb (length g.terminals) (length g.terminals) refl) in
              record { set = t.set; entry = t.entry; there = t.all (length g.terminals) (subst (λ (x : Bits). has x (length g.terminals) ≡ true) (sym e) own_bit) };
          done = λ x c. elim (s.adds.grows.changed x c) [ inl p ↦ inl p | inr o ↦ absurd (nothing x o) ];
          found = λ k c. elim (s.found k c) [ inl o ↦ absurd (Contains-none k (subst (λ (xs : List Place). Contains xs k) h o)) | inr n ↦ n ];
          differ = s.differ (λ i j x l at. let gone = ap (λ (xs : Carried). slice_get (keys_of xs) i) (sym f) ∙ at in cc);
        }

    pub Carrying-end : (table : Carried) (queue : List Place) → queue ≡ [] → IsCarrying table queue → AreCarried g start states table
    Carrying-end table queue e c = record {
      sound = c.sound;
      started = c.started;
      settled = λ x h. elim (c.done x h) [ inl none ↦ absurd (Contains-none x.0 (subst (λ (xs : List Place). Contains xs x.0) e none)) | inr s ↦ s ];
      differ = c.differ;
    }

    pub known_place : (table : Carried) (queue : List Place) → IsCarrying table queue → (k : Place) → Contains queue k → Contains (productions g) k.item.production
    known_place table queue c k on =
        let e = key_entry table k (c.found k on) in
        let h = c.sound (k, e.0) e.1 in
        of_grammar h.reached k.item.production k.item.index h.listed
      where
        in_closure : (K : Production → ℕ → Type 0) → ((p : Production) (dot : ℕ) → K p dot → Contains (productions g) p) → {p : Production} {dot : ℕ} → InClosure (productions g) K p dot → Contains (productions g) p
        in_closure K of {p} {dot} (in_kernel h) = of p dot h
        in_closure K of (expanded q after h b c) = c

        of_grammar : {n : ℕ} → IsReached S n → (p : Production) (dot : ℕ) → items_of S n p dot → Contains (productions g) p
        of_grammar at_zero p dot i = in_closure (IsAtStart (productions g) start) (λ q d h. h.1) ((closed.first p dot).0 i)
        of_grammar (over_edge {n} m x r e) p dot i = in_closure (IsMoved (items_of S n) x) (λ q d h. of_grammar r q h.before h.item) ((closed.next n m x e p dot).0 i)
