-- A closure by nonterminals, item by item: the items of the kernel, and all productions of the
-- nonterminals with the dot at the start.
use Rattle.std.proofs.Common.{◌≡◌, ℕ, zero, suc, ◌<◌, ◌⊎◌, inl, inr, List, [], ◌∷◌, ◌++◌, length, map, drop, refl, sym, ◌∙◌, ap, subst, arith, true, Some, option_map, Vec, Global}
use Rattle.std.specs.Prelude.{Contains, slice_get, get_or}
use Rattle.std.proofs.lemmas.List.Elements.{Contains-append_left, Contains-append_right, Contains-append_cases}
use Rattle.std.proofs.lemmas.Option.{slice_get-map, slice_get_within}
use Rattle.lalrpop_base.specs.Words.{Bits, holds_token, Dotted, AllDiffer, FitsTokens, Ordered, Rules, AreItemsBy, Ascend, ClosureTable, HasPropagated, InKernel, IsClosureBy}
use Rattle.lalrpop_base.specs.Words.{IsFound, IsItemOf, IsTokenClosed, Precedes, item_of, meant, readings, lr0_at_start, AreExpansions, AreNumbered, AreNumbers}
use Rattle.lalrpop_base.specs.Words.{dotted_at, item_by, items_by}
use Rattle.lalrpop_construction.specs.Words.{HasTokensThatFollow, IsExpansionWith, IsNamed, IsPropagated, IsPropagation, NonterminalTokens, vec_items_at, numbered_of, parts_in, unfolded}
use Rattle.lalrpop_construction.specs.Words.{with_tokens}
use Rattle.lalrpop_construction.proofs.Types.{Nil, Production, Symbol, Token}
use Rattle.lalrpop_grammar.specs.declared.repr.Symbol.TheVariants.{Nonterminal}
use Rattle.lalrpop_collections.proofs.theory.lists.Lists.{contains_of_map, some_of_map}
use Rattle.lalrpop_states.specs.closures.Closure.{itself}
use Rattle.lalrpop_states.specs.states.Items.{dotted_of}
use Rattle.lalrpop_collections.specs.lists.Entries.{Gathers}
use Rattle.lalrpop_numbers.specs.declared.numbers.numbered.Numbered.{Numbered}
use Rattle.lalrpop_numbers.specs.declared.numbers.Numbers.{Numbers}
use Rattle.lalrpop_states.proofs.theory.grammars.AscendingItems.{less_apart}
use Rattle.lalrpop_collections.proofs.theory.lists.Bounded.{in_flat_map}
use Rattle.lalrpop_states.proofs.theory.closures.Closing.{Tokens-end, all_listed}
use Rattle.lalrpop_states.proofs.theory.grammars.KnownTerminals.{bit_held, held_bit, holds_more}
use Rattle.lalrpop_collections.proofs.theory.lists.Members.{contains_map, Contains-none, place, of_flat}
use Rattle.lalrpop_construction.proofs.theory.numbers.Numbers.{at_number, items_ascend, stands_at}
use Rattle.lalrpop_construction.proofs.theory.closures.Readings.{Meant-closure}
use Rattle.lalrpop_collections.proofs.theory.lists.Places.{contains_at, filled, one_place, same_some, slice_get_at}
use Rattle.lalrpop_construction.proofs.theory.closures.Propagation.{Reached, ReachedWith, kernel_reached, kernel_token}
use Rattle.lalrpop_collections.proofs.theory.lists.Updates.{one_value}

-- items that ascend have no dotted production twice
pub ascend_differ : {L : Type 0} (items : List (Dotted L)) → Ascend items → AllDiffer (map dotted_of items)
ascend_differ {L} items ascend i j x l at_i at_j =
    let a = some_of_map (dotted_of {L = L}) (slice_get items i) x (sym (slice_get-map dotted_of items i) ∙ at_i) in
    let b = some_of_map (dotted_of {L = L}) (slice_get items j) x (sym (slice_get-map dotted_of items j) ∙ at_j) in
    let same : dotted_of a.0 ≡ dotted_of b.0 = a.2 ∙ sym b.2 in
    elim (ascend i j a.0 b.0 l a.1 b.1) [
      | inl less ↦ less_apart a.0.production b.0.production less (ap (λ (d : Production × ℕ). d.0) same)
      | inr further ↦ let e = ap (λ (d : Production × ℕ). d.1) same in let m = further.1 in absurd (omega arith)
    ]

-- the list at an index within the lists
pub list_stands : {A : Type 0} (vs : List (Vec ℕ A)) (x : ℕ) → x < length vs → slice_get (map (λ (v : Vec ℕ A). v.items) vs) x ≡ Some (vec_items_at vs x)
list_stands [] x l = absurd (omega arith)
list_stands (v ∷ vs) zero l = refl
list_stands (v ∷ vs) (suc x) l = list_stands vs x (omega arith)

pub list_read : (vs : List (Vec ℕ Global)) (x : ℕ) (v : Vec ℕ Global) → x < length vs → v ≡ get_or vs x v → vec_items_at vs x ≡ v.items
list_read vs x v l e =
    same_some (vec_items_at vs x) v.items (sym (list_stands vs x l) ∙ slice_get-map (λ (w : Vec ℕ Global). w.items) vs x ∙ ap (option_map (λ (w : Vec ℕ Global). w.items)) (slice_get_at vs x v l e))

-- ---- entries of a map, as items
pub items_unfolded : {L : Type 0} (meaning : L → Bits) (items : List (Dotted Nil)) (entries : List (ℕ × L)) →
    map item_of (map (λ (e : ℕ × Bits). (dotted_at items e.0, e.1)) (readings meaning entries)) ≡ map (meant meaning) (items_by items (map numbered_of entries))
items_unfolded meaning items [] = refl
items_unfolded meaning items (e ∷ es) = ap (λ (is : List (Dotted Bits)). meant meaning (item_by items (numbered_of e)) ∷ is) (items_unfolded meaning items es)

-- items ascend with the meanings of their lookaheads
meant_ascend : {L : Type 0} (meaning : L → Bits) (items : List (Dotted L)) → Ascend items → Ascend (map (meant meaning) items)
meant_ascend meaning items ascend i j x y l at_i at_j =
    let a = some_of_map (meant meaning) (slice_get items i) x (sym (slice_get-map (meant meaning) items i) ∙ at_i) in
    let b = some_of_map (meant meaning) (slice_get items j) y (sym (slice_get-map (meant meaning) items j) ∙ at_j) in
    subst (λ (z : Dotted Bits). Precedes x z) b.2 (subst (λ (z : Dotted Bits). Precedes z (meant meaning b.0)) a.2 (ascend i j a.0 b.0 l a.1 b.1))

module _ {L : Type 0} (meaning : L → Bits) (begins : Rules → List Symbol → Token → Type 0) (passes : Rules → List Symbol → Type 0) (g : Rules) (n : Numbers) (numbers : AreNumbers g n) (list : List (Numbered L)) (known : AreNumbered n.items.items list)
    (are_items : AreItemsBy meaning g (items_by n.items.items list)) (shared : NonterminalTokens) (sharing : IsPropagation begins passes g n (map (meant meaning) (items_by n.items.items list)) shared []) where
  abbrev kernel : List (Dotted Bits)
  kernel = map (meant meaning) (items_by n.items.items list)

  -- an entry as an item
  abbrev front : ℕ × Bits → Dotted Bits
  front f = record { production = (dotted_at n.items.items f.0).production; index = (dotted_at n.items.items f.0).index; lookahead = f.1 }

  -- ---- the parts of the closure
  record IsPart (f : ℕ × Bits) : Type 0 where
    within : f.0 < length n.items.items
    begun : ((front f).index ≡ 0) ⊎ InKernel kernel (front f).production (front f).index
    reached : Reached begins passes g n kernel (front f).production (front f).index
    tokens : (t : Token) → holds_token g.terminals f.1 t ≡ true → ReachedWith begins passes g n kernel (front f).production (front f).index t
    gives : IsPropagated begins passes g n shared (front f)
    fits : FitsTokens g.terminals f.1

  abbrev part_of : Numbered L → ℕ × Bits
  part_of e = (e.number, meaning e.lookahead)

  in_kernel_of : (e : Numbered L) → Contains list e → Contains kernel (front (part_of e))
  in_kernel_of e c = contains_map (meant meaning) (items_by n.items.items list) (item_by n.items.items e) (contains_map (item_by n.items.items) list e c)

  kernel_part : (e : Numbered L) → Contains list e → IsPart (part_of e)
  kernel_part e c =
      let k = in_kernel_of e c in
      record {
        within = known e c;
        begun = inr (contains_map dotted_of kernel (front (part_of e)) k);
        reached = kernel_reached begins passes g n kernel (front (part_of e)) k;
        tokens = λ t h. kernel_token begins passes g n kernel (front (part_of e)) t k h;
        gives = sharing.kernel_shared (front (part_of e)) k;
        fits = (are_items.each (item_by n.items.items e) (contains_map (item_by n.items.items) list e c)).tokens;
      }

  -- the numbers of a nonterminal are those of its productions
  expansions_at : (x : ℕ) → x < length n.symbols.items → (s : Symbol) × (slice_get n.symbols.items x ≡ Some s) × AreExpansions n.items.items s (vec_items_at n.expansions.items x)
  expansions_at x l =
      let s = filled n.symbols.items x l in
      (s.0, s.1, numbers.expansions x s.0 (vec_items_at n.expansions.items x) s.1 (list_stands n.expansions.items x (omega (arith, n.expanded))))

  shared_front : (x : ℕ) (tokens : Bits) (k : ℕ) → Contains shared (x, tokens) → Contains (vec_items_at n.expansions.items x) k → IsExpansionWith g n x tokens (front (k, tokens)) × (k < length n.items.items)
  shared_front x tokens k c m =
      let s = expansions_at x (sharing.known (x, tokens) c) in
      let i = (s.2 k).0 m in
      let at : dotted_at n.items.items k ≡ i.0 = at_number n.items.items k i.0 i.1 in (
        subst (λ (d : Dotted Nil). IsExpansionWith g n x tokens (record { production = d.production; index = d.index; lookahead = tokens })) (sym at) (record {
          start = i.2;
          among = (numbers.items.each i.0 (contains_at n.items.items i.0 k i.1)).0;
          named = s.1 ∙ ap Some i.3;
          same = refl;
        }),
        slice_get_within n.items.items k i.0 i.1,
      )

  done : (e : ℕ × Bits) → Contains shared e → (i : Dotted Bits) → IsExpansionWith g n e.0 e.1 i → IsPropagated begins passes g n shared i
  done e c i f = elim (sharing.shared e c) [ inl none ↦ absurd (Contains-none e.0 none) | inr all ↦ all i f ]

  front_part : (x : ℕ) (tokens : Bits) (k : ℕ) → Contains shared (x, tokens) → Contains (vec_items_at n.expansions.items x) k → IsPart (k, tokens)
  front_part x tokens k c m =
      let f = shared_front x tokens k c m in
      record {
        within = f.1;
        begun = inl f.0.start;
        reached = subst (Reached begins passes g n kernel (front (k, tokens)).production) (sym f.0.start) (sharing.reached (x, tokens) (front (k, tokens)).production c f.0.named f.0.among);
        tokens = λ t h. subst (λ (d : ℕ). ReachedWith begins passes g n kernel (front (k, tokens)).production d t) (sym f.0.start) (sharing.tokens (x, tokens) (front (k, tokens)).production t c f.0.named f.0.among h);
        gives = done (x, tokens) c (front (k, tokens)) f.0;
        fits = λ bit h. let l = sharing.fit (x, tokens) c bit h in omega arith;
      }

  abbrev parts : List (ℕ × Bits)
  parts = parts_in meaning list ++ unfolded n shared

  abbrev expansions_of : ℕ × Bits → List (ℕ × Bits)
  expansions_of e = with_tokens e.1 (vec_items_at n.expansions.items e.0)

  are_parts : (f : ℕ × Bits) → Contains parts f → IsPart f
  are_parts f c = elim (Contains-append_cases (parts_in meaning list) (unfolded n shared) f c) [
    | inl own ↦ let e = contains_of_map part_of list f own in subst IsPart e.2 (kernel_part e.0 e.1)
    | inr more ↦
        let e = of_flat expansions_of shared f more in
        let k = contains_of_map (λ (k : ℕ). (k, e.0.1)) (vec_items_at n.expansions.items e.0.0) f e.2 in
        subst IsPart k.2 (front_part e.0.0 e.0.1 k.0 e.1 k.1)
  ]

  -- ---- the table that has them all
  module _ (table : List (ℕ × Bits)) (gathers : Gathers parts table) where
    abbrev decoded : ℕ × Bits → Dotted Nil × Bits
    decoded e = (dotted_at n.items.items e.0, e.1)

    abbrev found : ClosureTable
    found = map decoded table

    part_at : (e : ℕ × Bits) → Contains table e → (f : ℕ × Bits) × IsPart f × (f.0 ≡ e.0)
    part_at e c =
        let f = contains_of_map (λ (p : ℕ × Bits). p.0) parts e.0 (gathers.keys e c) in
        (f.0, are_parts f.0 f.1, f.2)

    part_with : (e : ℕ × Bits) (t : Token) → Contains table e → holds_token g.terminals e.1 t ≡ true → (f : Bits) × IsPart (e.0, f) × (holds_token g.terminals f t ≡ true)
    part_with e t c h =
        let b = held_bit g.terminals e.1 t h in
        let f = gathers.bits e b.0 c b.2 in
        (f.set, are_parts (e.0, f.set) f.entry, bit_held g.terminals f.set t b.0 b.1 f.there)

    -- a part is found, with all its tokens
    found_part : (f : ℕ × Bits) → Contains parts f → IsFound found (dotted_at n.items.items f.0) f.1
    found_part f c =
        let h = gathers.found f c in
        record { set = h.set; entry = contains_map decoded table (f.0, h.set) h.entry; all = h.all }

    -- the tokens that a part gives to a production of the nonterminal after its dot are found
    module _ (q : Production) (after : List Symbol) (among : Contains g.productions q) where
      owed : (f : ℕ × Bits) → IsPart f → drop (front f).index (front f).production.symbols ≡ Nonterminal q.nonterminal ∷ after → (x : ℕ) × IsNamed n x q.nonterminal × HasTokensThatFollow begins passes g n shared (front f) x after
      owed f p behind = p.gives q after behind among

      front_number : (x : ℕ) (tokens : Bits) → IsNamed n x q.nonterminal → Contains shared (x, tokens) → (k : ℕ) × Contains (vec_items_at n.expansions.items x) k × (dotted_at n.items.items k ≡ lr0_at_start q)
      front_number x tokens named c =
          let s = expansions_at x (sharing.known (x, tokens) c) in
          let same : s.0 ≡ Nonterminal q.nonterminal = same_some s.0 (Nonterminal q.nonterminal) (sym s.1 ∙ named) in
          let p = place n.items.items (lr0_at_start q) (numbers.items.all q 0 among (omega arith)) in
          (p.0, (s.2 p.0).1 (lr0_at_start q, p.2, refl, same), at_number n.items.items p.0 (lr0_at_start q) p.2)

      shared_found : (x : ℕ) (tokens : Bits) → IsNamed n x q.nonterminal → Contains shared (x, tokens) → IsFound found (lr0_at_start q) tokens
      shared_found x tokens named c =
          let k = front_number x tokens named c in
          let e = Contains-append_right (parts_in meaning list) (unfolded n shared) (k.0, tokens) (in_flat_map expansions_of shared (x, tokens) (k.0, tokens) c (contains_map (λ (k : ℕ). (k, tokens)) (vec_items_at n.expansions.items x) k.0 k.1)) in
          subst (λ (d : Dotted Nil). IsFound found d tokens) k.2 (found_part (k.0, tokens) e)

      settled_here : (e : ℕ × Bits) → Contains table e → drop (front e).index (front e).production.symbols ≡ Nonterminal q.nonterminal ∷ after → HasPropagated begins passes g found e.1 q after
      settled_here e c behind =
          let f = part_at e c in
          let move : (m : ℕ) (b : Bits) → m ≡ e.0 → drop (front (m, b)).index (front (m, b)).production.symbols ≡ Nonterminal q.nonterminal ∷ after = λ m b same. subst (λ (k : ℕ). drop (dotted_at n.items.items k).index (dotted_at n.items.items k).production.symbols ≡ Nonterminal q.nonterminal ∷ after) (sym same) behind in
          let o = owed f.0 f.1 (move f.0.0 f.0.1 f.2) in
          let s = shared_found o.0 o.2.set o.1 o.2.entry in
          record {
            key = lr0_at_start q;
            production = refl;
            start = refl;
            set = s.set;
            entry = s.entry;
            first = λ t b. holds_more g.terminals o.2.set s.set t s.all (o.2.all t (inl b));
            through = λ t p h.
                let w = part_with e t c h in
                let v = owed (e.0, w.0) w.1 behind in
                let x : v.0 ≡ o.0 = one_place n.symbols.items numbers.differ v.0 o.0 (Nonterminal q.nonterminal) v.1 o.1 in
                let set : v.2.set ≡ o.2.set = one_value shared sharing.differ o.0 v.2.set o.2.set (subst (λ (k : ℕ). Contains shared (k, v.2.set)) x v.2.entry) o.2.entry in
                holds_more g.terminals o.2.set s.set t s.all (subst (λ (b : Bits). holds_token g.terminals b t ≡ true) set (v.2.all t (inr (p, w.2))));
          }

    abbrev found_of : (e : Dotted Nil × Bits) → Contains found e → (m : ℕ × Bits) × Contains table m × (decoded m ≡ e)
    found_of e c = contains_of_map decoded table e c

    pub Unfolded-tokens : IsTokenClosed begins passes g kernel found
    Unfolded-tokens = record {
      all = λ i c.
          let d = contains_of_map (meant meaning) (items_by n.items.items list) i c in
          let e = contains_of_map (item_by n.items.items) list d.0 d.1 in
          let is : front (part_of e.0) ≡ i = ap (meant meaning) e.2 ∙ d.2 in
          let f = found_part (part_of e.0) (Contains-append_left (parts_in meaning list) (unfolded n shared) (part_of e.0) (contains_map part_of list e.0 e.1)) in
          (dotted_at n.items.items e.0.number, ap dotted_of is, subst (λ (b : Bits). IsFound found (dotted_at n.items.items e.0.number) b) (ap (λ (j : Dotted Bits). j.lookahead) is) f);
      keys = λ e c.
          let m = found_of e c in
          let f = part_at m.0 m.1 in
          subst (λ (d : Dotted Nil). Reached begins passes g n kernel d.production d.index) (ap (dotted_at n.items.items) f.2 ∙ ap (λ (d : Dotted Nil × Bits). d.0) m.2) f.1.reached;
      tokens = λ e t c h.
          let m = found_of e c in
          let w = part_with m.0 t m.1 (subst (λ (d : Dotted Nil × Bits). holds_token g.terminals d.1 t ≡ true) (sym m.2) h) in
          subst (λ (d : Dotted Nil × Bits). ReachedWith begins passes g n kernel d.0.production d.0.index t) m.2 (w.1.tokens t w.2);
      settled = λ e c q after behind among.
          let m = found_of e c in
          let at = subst (λ (d : Dotted Nil × Bits). drop d.0.index d.0.production.symbols ≡ Nonterminal q.nonterminal ∷ after) (sym m.2) behind in
          subst (λ (d : Dotted Nil × Bits). HasPropagated begins passes g found d.1 q after) m.2 (settled_here q after among m.0 m.1 at);
    }

    found_item : (e : ℕ × Bits) → Contains table e → IsItemOf g (front e)
    found_item e c =
        let f = part_at e c in
        let at = stands_at n.items.items e.0 (subst (λ (k : ℕ). k < length n.items.items) f.2 f.1.within) in
        let i = numbers.items.each (dotted_at n.items.items e.0) (contains_at n.items.items (dotted_at n.items.items e.0) e.0 at) in
        record {
          production = i.0;
          dot = i.1;
          tokens = λ bit h. let b = gathers.bits e bit c h in (are_parts (e.0, b.set) b.entry).fits bit b.there;
        }

    pub Unfolded-closure : Ascend (map item_of found) → IsClosureBy itself begins passes g kernel (map item_of found)
    Unfolded-closure ascend = record {
      are_items = record {
        each = λ i c.
            let d = contains_of_map item_of found i c in
            let m = found_of d.0 d.1 in
            subst (IsItemOf g) (ap item_of m.2 ∙ d.2) (found_item m.0 m.1);
        differ = ascend_differ (map item_of found) ascend;
      };
      ascend = ascend;
      begun = λ i c.
          let d = contains_of_map item_of found i c in
          let m = found_of d.0 d.1 in
          let f = part_at m.0 m.1 in
          subst (λ (j : Dotted Bits). (j.index ≡ 0) ⊎ InKernel kernel j.production j.index) (ap item_of m.2 ∙ d.2)
          (subst (λ (k : ℕ). ((dotted_at n.items.items k).index ≡ 0) ⊎ InKernel kernel (dotted_at n.items.items k).production (dotted_at n.items.items k).index) f.2 f.1.begun);
      exact = λ p dot. (
        λ h.
            let i = contains_of_map dotted_of (map item_of found) (p, dot) h in
            let d = contains_of_map item_of found i.0 i.1 in
            subst (λ (x : Production × ℕ). Reached begins passes g n kernel x.0 x.1) (ap dotted_of d.2 ∙ i.2) (Unfolded-tokens.keys d.0 d.1),
        all_listed begins passes g kernel found Unfolded-tokens,
      );
      tokens = Tokens-end begins passes g kernel found Unfolded-tokens;
    }

  -- ---- the entries of a map that has them all
  pub Closure-of : (entries : List (ℕ × L)) → Gathers parts (readings meaning entries) → Ordered (λ (d e : Numbered L). d.number < e.number) (map numbered_of entries) →
      AreNumbered n.items.items (map numbered_of entries) × IsClosureBy meaning begins passes g (items_by n.items.items list) (items_by n.items.items (map numbered_of entries))
  Closure-of entries gathers rise =
      let table : List (ℕ × Bits) = readings meaning entries in
      let items : List (Numbered L) = map numbered_of entries in
      let read : ℕ × L → ℕ × Bits = λ e. (e.0, meaning e.1) in
      let within : AreNumbered n.items.items items = λ d c.
      let e = contains_of_map numbered_of entries d c in
      let f = part_at table gathers (read e.0) (contains_map read entries e.0 e.1) in
      subst (λ (x : Numbered L). x.number < length n.items.items) e.2 (subst (λ (k : ℕ). k < length n.items.items) f.2 f.1.within) in
      let ascend : Ascend (items_by n.items.items items) = items_ascend n.items.items numbers.items.ascend items within rise in
      let same : map item_of (found table gathers) ≡ map (meant meaning) (items_by n.items.items items) = items_unfolded meaning n.items.items entries in
      let closed = Unfolded-closure table gathers (subst Ascend (sym same) (meant_ascend meaning (items_by n.items.items items) ascend)) in
      (within, Meant-closure meaning begins passes g (items_by n.items.items list) (items_by n.items.items items) ascend (subst (IsClosureBy itself begins passes g kernel) same closed))
