-- The items of a kernel to which items move, and the kernel of the start.
use Rattle.std.proofs.Common.{◌≡◌, ℕ, zero, suc, ◌+◌, inl, inr, List, [], ◌∷◌, map, refl, sym, ◌∙◌, ap, subst, arith, Option, Some, None}
use Rattle.std.specs.Prelude.{Contains, slice_get}
use Rattle.std.specs.Map.{lookup}
use Rattle.std.specs.BTreeMap.{is_at}
use Rattle.std.proofs.lemmas.Option.{slice_get_within}
use Rattle.std.proofs.lemmas.Map.Entries.{place_from_lookup}
use Rattle.lalrpop_base.specs.Words.{Bits, Dotted, AllDiffer, FitsTokens, Rules, rules_of, IsWellFormed, productions_of, listed_productions, name_cmp, IsItemBy}
use Rattle.lalrpop_base.specs.Words.{AreItemsBy, item_at_start, IsBehind, Shifts, shifted}
use Rattle.lalrpop_construction.proofs.Types.{Grammar, NonterminalData, NonterminalString, Production, Symbol}
use Rattle.lalrpop_states.specs.states.Items.{dotted_of}
use Rattle.lalrpop_states.specs.construction.Transitions.Shifts.{none, moves, stays}
use Rattle.lalrpop_grammar.proofs.theory.grammars.Grammars.{productions_among}
use Rattle.lalrpop_collections.proofs.theory.lists.Members.{Contains-none, contains_head, contains_tail, contains-cons, contains_map}
use Rattle.lalrpop_construction.proofs.theory.construction.Moves.{differ_head, differ_tail}
use Rattle.lalrpop_collections.proofs.theory.lists.Places.{contains_at, same_some}

differ_cons : {X : Type 0} (x : X) (xs : List X) → ((y : X) → Contains xs y → x ≡ y → ⊥) → AllDiffer xs → AllDiffer (x ∷ xs)
differ_cons x xs out d i zero y l at_i at_j = absurd (omega arith)
differ_cons x xs out d zero (suc j) y l at_i at_j = out y (contains_at xs y j at_j) (same_some x y at_i)
differ_cons x xs out d (suc i) (suc j) y l at_i at_j = d i j y (omega arith) at_i at_j

abbrev pair : Production → ℕ → Production × ℕ
pair p n = (p, n)

module _ {L : Type 0} where
  -- ---- each item of the kernel was moved
  pub record IsFrom (x : Symbol) (items : List (Dotted L)) (j : Dotted L) : Type 0 where
    pub item : Dotted L
    pub among : Contains items item
    pub behind : IsBehind x item
    pub is : shifted item ≡ j

  from_later : (x : Symbol) (i : Dotted L) (items : List (Dotted L)) (j : Dotted L) → IsFrom x items j → IsFrom x (i ∷ items) j
  from_later x i items j f = record { item = f.item; among = contains_tail i items f.item f.among; behind = f.behind; is = f.is }

  pub Shifts-from : (x : Symbol) (items kernel : List (Dotted L)) → Shifts x items kernel → (j : Dotted L) → Contains kernel j → IsFrom x items j
  Shifts-from x items kernel none j c = absurd (Contains-none j c)
  Shifts-from x items kernel (moves {i} {items = is} {kernel = ks} b s) j c = elim (contains-cons (shifted i) ks j c) [
    | inl e ↦ record { item = i; among = contains_head i is; behind = b; is = e }
    | inr later ↦ from_later x i is j (Shifts-from x is ks s j later)
  ]
  Shifts-from x items kernel (stays {i} {items = is} {kernel = ks} b s) j c = from_later x i is j (Shifts-from x is ks s j c)

  dotted_in : (items : List (Dotted L)) (i : Dotted L) → Contains items i → Contains (map dotted_of items) (i.production, i.index)
  dotted_in items i c = contains_map dotted_of items i c

  pub of_dotted : (items : List (Dotted L)) (d : Production × ℕ) → Contains (map dotted_of items) d → (i : Dotted L) × Contains items i × ((i.production, i.index) ≡ d)
  of_dotted [] d c = absurd (Contains-none d c)
  of_dotted (i ∷ items) d c = elim (contains-cons (i.production, i.index) (map dotted_of items) d c) [
    | inl e ↦ (i, contains_head i items, e)
    | inr later ↦ let r = of_dotted items d later in (r.0, contains_tail i items r.0 r.1, r.2)
  ]

  back_moved : (i j : Dotted L) → pair i.production (i.index + 1) ≡ pair j.production (j.index + 1) → pair i.production i.index ≡ pair j.production j.index
  back_moved i j e =
      let p : i.production ≡ j.production = ap (λ (d : Production × ℕ). d.0) e in
      let n : i.index + 1 ≡ j.index + 1 = ap (λ (d : Production × ℕ). d.1) e in
      let m : i.index ≡ j.index = omega arith in
      ap (λ (q : Production). pair q i.index) p ∙ ap (λ (k : ℕ). pair j.production k) m

  Shifts-differ : (x : Symbol) (items kernel : List (Dotted L)) → Shifts x items kernel → AllDiffer (map dotted_of items) → AllDiffer (map dotted_of kernel)
  Shifts-differ x items kernel none d = d
  Shifts-differ x items kernel (moves {i} {items = is} {kernel = ks} b s) d =
      differ_cons (i.production, i.index + 1) (map dotted_of ks)
      (λ y c e.
      let k = of_dotted ks y c in
      let f = Shifts-from x is ks s k.0 k.1 in
      differ_head (i.production, i.index) (map dotted_of is) d (f.item.production, f.item.index) (dotted_in is f.item f.among)
      (back_moved i f.item (e ∙ sym k.2 ∙ ap (λ (j : Dotted L). (j.production, j.index)) (sym f.is))))
      (Shifts-differ x is ks s (differ_tail (i.production, i.index) (map dotted_of is) d))
  Shifts-differ x items kernel (stays {i} {items = is} {kernel = ks} b s) d = Shifts-differ x is ks s (differ_tail (i.production, i.index) (map dotted_of is) d)

  -- ---- the kernel of the start
  begun_at : (s : L) (ps : List Production) (k : ℕ) (d : Production × ℕ) → slice_get (map dotted_of (map (item_at_start s) ps)) k ≡ Some d → slice_get ps k ≡ Some d.0
  begun_at s [] k d h = cc
  begun_at s (p ∷ ps) zero d h = ap Some (ap (λ (x : Production × ℕ). x.0) (same_some (p, 0) d h))
  begun_at s (p ∷ ps) (suc k) d h = begun_at s ps k d h

  pub begun_zero : (s : L) (ps : List Production) (d : Production × ℕ) → Contains (map dotted_of (map (item_at_start s) ps)) d → d.1 ≡ 0
  begun_zero s [] d c = absurd (Contains-none d c)
  begun_zero s (p ∷ ps) d c = elim (contains-cons (p, 0) (map dotted_of (map (item_at_start s) ps)) d c) [
    | inl e ↦ ap (λ (x : Production × ℕ). x.1) (sym e)
    | inr later ↦ begun_zero s ps d later
  ]

  pub begun_in : (s : L) (ps : List Production) (i : Dotted L) → Contains (map (item_at_start s) ps) i → (p : Production) × Contains ps p × (item_at_start s p ≡ i)
  begun_in s [] i c = absurd (Contains-none i c)
  begun_in s (p ∷ ps) i c = elim (contains-cons (item_at_start s p) (map (item_at_start s) ps) i c) [
    | inl e ↦ (p, contains_head p ps, e)
    | inr later ↦ let r = begun_in s ps i later in (r.0, contains_tail p ps r.0 r.1, r.2)
  ]

listed_differ : (g : Grammar) (name : NonterminalString) (o : Option NonterminalData) → IsWellFormed g → lookup (is_at (name_cmp name)) g.nonterminals.entries ≡ o → AllDiffer (listed_productions o)
listed_differ g name None w e = λ i j x l at_i at_j. cc
listed_differ g name (Some entry) w e = let at = place_from_lookup (is_at (name_cmp name)) g.nonterminals.entries entry e in (w at.0 at.1 entry at.2).differ

module _ {L : Type 0} where
  -- no production of a nonterminal is in the kernel of the start twice
  pub begun_differ : (g : Grammar) (start : NonterminalString) (s : L) → IsWellFormed g → AllDiffer (map dotted_of (map (item_at_start s) (productions_of g start)))
  begun_differ g start s w i j x l at_i at_j =
      let ps = productions_of g start in
      listed_differ g start (lookup (is_at (name_cmp start)) g.nonterminals.entries) w refl i j x.0 l (begun_at s ps i x at_i) (begun_at s ps j x at_j)

module _ {L : Type 0} (meaning : L → Bits) where
  -- ---- the kernel is of the grammar, if the items are
  moved_of : (g : Rules) (x : Symbol) (i : Dotted L) → IsBehind x i → IsItemBy meaning g i → IsItemBy meaning g (shifted i)
  moved_of g x i b of = let l = slice_get_within i.production.symbols i.index x b in record { production = of.production; dot = omega arith; tokens = of.tokens }

  pub Shifts-items : (g : Rules) (x : Symbol) (items kernel : List (Dotted L)) → Shifts x items kernel → AreItemsBy meaning g items → AreItemsBy meaning g kernel
  Shifts-items g x items kernel s a = record {
    each = λ j c. let f = Shifts-from x items kernel s j c in subst (IsItemBy meaning g) f.is (moved_of g x f.item f.behind (a.each f.item f.among));
    differ = Shifts-differ x items kernel s a.differ;
  }

  pub Start-items : (g : Grammar) (start : NonterminalString) (s : L) → IsWellFormed g → FitsTokens g.terminals (meaning s) → AreItemsBy meaning (rules_of g) (map (item_at_start s) (productions_of g start))
  Start-items g start s w f =
      let ps = productions_of g start in
      record {
        each = λ i c. let p = begun_in s ps i c in subst (IsItemBy meaning (rules_of g)) p.2 (record { production = productions_among g start p.0 p.1; dot = omega arith; tokens = f });
        differ = begun_differ g start s w;
      }
