-- A grammar has at most as many kernels as sublists of all its items.
use Rattle.std.proofs.Common.{◌≡◌, ℕ, ◌+◌, ◌≤◌, List, [], ◌∷◌, length, map, refl, sym, subst, ◌∙◌, ap, arith, option_map, Some}
use Rattle.std.specs.Prelude.{Contains, slice_get}
use Rattle.std.specs.List.{flat_map, range_with_len}
use Rattle.std.proofs.lemmas.Option.{slice_get-map}
use Rattle.lalrpop_base.specs.Words.{Bits, Dotted, AllDiffer, Rules, meant, IsItemOf, AreItems, AreItemsBy}
use Rattle.lalrpop_construction.proofs.Types.{Production}
use Rattle.lalrpop_states.specs.states.Items.{dotted_of}
use Rattle.std.proofs.lemmas.List.{length-map}
use Rattle.lalrpop_collections.proofs.theory.lists.Lists.{contains_of_map, some_of_map}
use Rattle.lalrpop_collections.proofs.theory.lists.Bounded.{lists, in_flat_map, kernels_few}
use Rattle.lalrpop_collections.proofs.theory.lists.Members.{contains_map, Contains-range}
use Rattle.lalrpop_collections.proofs.theory.lists.Places.{apart_from_differ}
use Rattle.lalrpop_construction.proofs.theory.closures.Readings.{items_meant}
use Rattle.lalrpop_collections.proofs.theory.sets.Subsets.{subsets, among_subsets}
use Rattle.lr1_theory.proofs.theory.grammars.Tables.{fits_below}

abbrev made : Production → ℕ → Bits → Dotted Bits
made p n s = record { production = p; index = n; lookahead = s }

abbrev at_dot : List Bits → Production → ℕ → List (Dotted Bits)
at_dot sets p n = map (λ s. made p n s) sets

abbrev of_production : List Bits → Production → List (Dotted Bits)
of_production sets p = flat_map (at_dot sets p) (range_with_len 0 (length p.symbols + 1))

-- all items of a grammar
pub all_items : Rules → List (Dotted Bits)
all_items g = flat_map (of_production (subsets (length g.terminals + 2))) g.productions

pub among_items : (g : Rules) (i : Dotted Bits) → IsItemOf g i → Contains (all_items g) i
unfolding all_items
among_items g i of =
    let sets = subsets (length g.terminals + 2) in
    let l = of.dot in
    let set = among_subsets (length g.terminals + 2) i.lookahead (fits_below g i.lookahead of.tokens) in
    let dot = Contains-range (length i.production.symbols + 1) i.index (omega arith) in
    let here = contains_map (λ s. made i.production i.index s) sets i.lookahead set in
    in_flat_map (of_production sets) g.productions i.production i of.production
    (in_flat_map (at_dot sets i.production) (range_with_len 0 (length i.production.symbols + 1)) i.index i dot here)

-- items differ if their dotted productions do
items_differ : (items : List (Dotted Bits)) → AllDiffer (map dotted_of items) → AllDiffer items
items_differ items d i j x l at_i at_j =
    let f : Dotted Bits → Production × ℕ = dotted_of in
    d i j (f x) l (slice_get-map f items i ∙ ap (option_map f) at_i) (slice_get-map f items j ∙ ap (option_map f) at_j)

-- a bound of the number of kernels of a grammar
pub kernels_limit : Rules → ℕ
kernels_limit g = length (lists (all_items g) (length (all_items g)))

pub kernels_bounded : (g : Rules) (known : List (List (Dotted Bits))) → AllDiffer known → ((k : List (Dotted Bits)) → Contains known k → AreItems g k) → length known ≤ kernels_limit g
unfolding kernels_limit
kernels_bounded g known d h =
    kernels_few (all_items g) known (apart_from_differ known d) (λ k c. apart_from_differ k (items_differ k (h k c).differ)) (λ k i c m. among_items g i ((h k c).each i m))

-- ---- any lookahead whose values are the same if their meanings are
module _ {L : Type 0} (meaning : L → Bits) (told : (a b : L) → meaning a ≡ meaning b → a ≡ b) where
  same_item : (i j : Dotted L) → meant meaning i ≡ meant meaning j → i ≡ j
  same_item i j e =
      let make : Production → ℕ → L → Dotted L = λ p n l. record { production = p; index = n; lookahead = l } in
      let p : i.production ≡ j.production = ap (λ (x : Dotted Bits). x.production) e in
      let n : i.index ≡ j.index = ap (λ (x : Dotted Bits). x.index) e in
      let l : i.lookahead ≡ j.lookahead = told i.lookahead j.lookahead (ap (λ (x : Dotted Bits). x.lookahead) e) in
      ap (λ (q : Production). make q i.index i.lookahead) p ∙ ap (λ (m : ℕ). make j.production m i.lookahead) n ∙ ap (λ (x : L). make j.production j.index x) l

  same_items : (a b : List (Dotted L)) → map (meant meaning) a ≡ map (meant meaning) b → a ≡ b
  same_items [] [] e = refl
  same_items [] (j ∷ b) e = cc
  same_items (i ∷ a) [] e = cc
  same_items (i ∷ a) (j ∷ b) e =
      let first : meant meaning i ≡ meant meaning j = cc in
      let rest : map (meant meaning) a ≡ map (meant meaning) b = cc in
      ap (λ (x : Dotted L). x ∷ a) (same_item i j first) ∙ ap (λ (xs : List (Dotted L)). j ∷ xs) (same_items a b rest)

  kernels_differ : (known : List (List (Dotted L))) → AllDiffer known → AllDiffer (map (map (meant meaning)) known)
  kernels_differ known d i j x l at_i at_j =
      let f : List (Dotted L) → List (Dotted Bits) = map (meant meaning) in
      let a = some_of_map f (slice_get known i) x (sym (slice_get-map f known i) ∙ at_i) in
      let b = some_of_map f (slice_get known j) x (sym (slice_get-map f known j) ∙ at_j) in
      d i j a.0 l a.1 (b.1 ∙ ap Some (sym (same_items a.0 b.0 (a.2 ∙ sym b.2))))

  pub kernels_few_by : (g : Rules) (known : List (List (Dotted L))) → AllDiffer known → ((k : List (Dotted L)) → Contains known k → AreItemsBy meaning g k) → length known ≤ kernels_limit g
  kernels_few_by g known d of =
      let f : List (Dotted L) → List (Dotted Bits) = map (meant meaning) in
      let few = kernels_bounded g (map f known) (kernels_differ known d) (λ k c. let j = contains_of_map f known k c in subst (AreItems g) j.2 (items_meant meaning g j.0 (of j.0 j.1))) in
      let same = length-map known f in
      omega arith
