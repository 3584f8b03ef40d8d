-- Items by number, while token sets get numbers, and while items of the code are made.
use Rattle.std.proofs.Common.{◌≡◌, ⊎_elim, ℕ, ◌+◌, ◌<◌, ◌≤◌, List, [], ◌∷◌, ◌++◌, length, map, take, get_or, slice_get, Option, None, Some, option_map, refl, sym, ◌∙◌, ap, subst}
use Rattle.std.proofs.Math.Path.{fun_ext}
use Rattle.std.specs.List.{cons_option, filter_map}
use Rattle.std.proofs.lemmas.List.{map-append, take_more}
use Rattle.std.proofs.lemmas.Option.{slice_get_past}
use Rattle.lalrpop_base.specs.Words.{AreFaithful, Bits, Dotted, bits_of, contents, contents_at, dotted_of, holds_token}
use Rattle.lalrpop_collections.proofs.theory.lists.Places.{push_cases, slice_get_at}
use Rattle.lalrpop_grammar.specs.declared.repr.NonterminalString.{NonterminalString}
use Rattle.lalrpop_grammar.specs.declared.repr.Production.{Production}
use Rattle.lalrpop_states.specs.declared.lr1_core.state.State.{State}
use Rattle.table_numbers.specs.Items.{AreFaithfulWithItems, AreItemsOf, AreWholeNumbersOf, EachListIsOf, HaveItemsOf, dotted_if, item_at, item_parts, list_at, list_if, numbered_dotted, whole_contents}
use Rattle.table_numbers.specs.Lists.{Lists}
use Rattle.table_numbers.specs.Numbered.{Keeps}
use Rattle.table_numbers.specs.Numbers.{AreTablesOf, with_items}
use Rattle.table_numbers.specs.declared.tables.NumberedItem.{NumberedItem}
use Rattle.table_numbers.specs.declared.tables.NumberedTables.{NumberedTables}
use Rattle.table_numbers.proofs.ContentsLemmas.{there_not}

-- items with equal parts are equal
pub same_parts : (a b : Option Production) (d e : ℕ) (s t : Option Bits) → a ≡ b → d ≡ e → s ≡ t → ◌≡◌ {A = (Option Production × ℕ) × Option Bits} ((a, d), s) ((b, e), t)
same_parts a b d e s t first second third =
    ap (λ (x : Option Production). ((x, d), s)) first
    ∙ ap (λ (x : ℕ). ((b, x), s)) second
    ∙ ap (λ (x : Option Bits). ((b, e), x)) third

module _ (productions : List Production) (old new : List Bits) (kept : Keeps old new) where
  kept_at : (i : NumberedItem) (q : Dotted Bits) → item_at productions old i ≡ item_parts q → item_at productions new i ≡ item_parts q
  kept_at i q e =
      let first : slice_get productions i.production ≡ Some q.production = ap (λ (x : (Option Production × ℕ) × Option Bits). x.0.0) e in
      let second : i.dot ≡ q.index = ap (λ (x : (Option Production × ℕ) × Option Bits). x.0.1) e in
      let there : slice_get old i.lookahead ≡ Some q.lookahead = ap (λ (x : (Option Production × ℕ) × Option Bits). x.1) e in
      same_parts _ _ _ _ _ _ first second (kept i.lookahead q.lookahead there)

  -- items by number stay when token sets are added
  kept_items : (is : List NumberedItem) (qs : List (Dotted Bits)) → map (item_at productions old) is ≡ map item_parts qs → map (item_at productions new) is ≡ map item_parts qs
  kept_items [] [] e = refl
  kept_items [] (q ∷ qs) e = cc
  kept_items (i ∷ is) [] e = cc
  kept_items (i ∷ is) (q ∷ qs) e =
      let first : item_at productions old i ≡ item_parts q = cc in
      let others : map (item_at productions old) is ≡ map item_parts qs = cc in
      ap (λ (x : (Option Production × ℕ) × Option Bits). x ∷ map (item_at productions new) is) (kept_at i q first) ∙ ap (λ (xs : List ((Option Production × ℕ) × Option Bits)). item_parts q ∷ xs) (kept_items is qs others)

  -- one more item by number was added
  pub next_item : (list : List NumberedItem) (items : List (Dotted Bits)) (i : ℕ) (one : NumberedItem) (q : Dotted Bits) → i < length items → q ≡ get_or items i q → item_at productions new one ≡ item_parts q →
      map (item_at productions old) list ≡ map item_parts (take i items) → map (item_at productions new) (list ++ one ∷ []) ≡ map item_parts (take (i + 1) items)
  next_item list items i one q l is at e =
      map-append (item_at productions new) list (one ∷ [])
      ∙ ap (λ xs. xs ++ item_at productions new one ∷ []) (kept_items list (take i items) e)
      ∙ ap (λ x. map item_parts (take i items) ++ x ∷ []) at
      ∙ sym (map-append item_parts (take i items) (q ∷ []))
      ∙ ap (λ x. map item_parts (take i items ++ x ∷ [])) is
      ∙ ap (map item_parts) (sym (take_more items i q l))

  -- one more list of items was added
  pub next_list : (states : List (State Bits)) (all : List (List NumberedItem)) (state : State Bits) (items : List NumberedItem) → slice_get states (length all) ≡ Some state → AreItemsOf productions new items state →
      EachListIsOf productions old states all → EachListIsOf productions new states (all ++ items ∷ [])
  next_list states all state items here is each n other list at_n at_list = ⊎_elim
      (λ before. kept_items list other.items.vec.items (each n other list at_n before))
      (λ last.
      let same : Some state ≡ Some other = sym here ∙ ap (slice_get states) (sym last.0) ∙ at_n in
      let is_state : state ≡ other = cc in
      subst (λ (x : List NumberedItem). AreItemsOf productions new x other) last.1 (subst (λ (x : State Bits). AreItemsOf productions new items x) is_state is))
      (push_cases all items n list at_list)

-- a property of each state that was made, and of one more
pub next_has : (P : ℕ → State Bits → Type 0) (states : List (State Bits)) (made : State Bits) → P (length states) made → ((n : ℕ) (state : State Bits) → slice_get states n ≡ Some state → P n state) →
    (n : ℕ) (state : State Bits) → slice_get (states ++ made ∷ []) n ≡ Some state → P n state
next_has P states made is each n state at_n = ⊎_elim
    (λ before. each n state before)
    (λ last. subst (λ (x : State Bits). P n x) last.1 (subst (λ (m : ℕ). P m made) (sym last.0) is))
    (push_cases states made n state at_n)

-- there are no items after the last list
pub list_past : (all : List (List NumberedItem)) (n : ℕ) → length all ≤ n → list_at all n ≡ []
list_past all n past = ap list_if (slice_get_past all n past)

-- the list that is read at a place is at that place
pub list_there : (all : List (List NumberedItem)) (n : ℕ) (items : List NumberedItem) → n < length all → items ≡ get_or all n items → list_at all n ≡ items
list_there all n items l e = ap list_if (slice_get_at all n items l e)

-- ---- contents
one_dotted : (productions : List Production) (sets : List Bits) (i : NumberedItem) (q : Dotted Bits) → item_at productions sets i ≡ item_parts q → numbered_dotted productions i ≡ Some (dotted_of q)
one_dotted productions sets i q e =
    let first : slice_get productions i.production ≡ Some q.production = ap (λ (x : (Option Production × ℕ) × Option Bits). x.0.0) e in
    let second : i.dot ≡ q.index = ap (λ (x : (Option Production × ℕ) × Option Bits). x.0.1) e in
    ap (option_map (λ (p : Production). (p, i.dot))) first ∙ ap (λ (d : ℕ). Some (q.production, d)) second

-- items by number have the productions and the dots of items of the code
all_dotted : (productions : List Production) (sets : List Bits) (is : List NumberedItem) (qs : List (Dotted Bits)) → map (item_at productions sets) is ≡ map item_parts qs → filter_map (numbered_dotted productions) is ≡ map dotted_of qs
all_dotted productions sets [] [] e = refl
all_dotted productions sets [] (q ∷ qs) e = cc
all_dotted productions sets (i ∷ is) [] e = cc
all_dotted productions sets (i ∷ is) (q ∷ qs) e =
    let first : item_at productions sets i ≡ item_parts q = cc in
    let others : map (item_at productions sets) is ≡ map item_parts qs = cc in
    ap (λ o. cons_option o (filter_map (numbered_dotted productions) is)) (one_dotted productions sets i q first)
    ∙ ap (λ (xs : List (Production × ℕ)). dotted_of q ∷ xs) (all_dotted productions sets is qs others)

module _ (lists : Lists) (t : NumberedTables) (states : List (State Bits)) (have : HaveItemsOf lists t states) where
  -- the items that the tables list are those of the states
  items_at : (n : ℕ) → dotted_if lists.productions (slice_get t.items n) ≡ (contents lists.terminals states n).items
  items_at n = by (slice_get t.items n) (slice_get states n) refl refl
    where
      by : (o : Option (List NumberedItem)) (q : Option (State Bits)) → slice_get t.items n ≡ o → slice_get states n ≡ q → dotted_if lists.productions o ≡ (contents_at (holds_token lists.terminals) q).items
      by None None e f = refl
      by (Some items) None e f = absurd (there_not t.items states n items e f (sym have.counted))
      by None (Some state) e f = absurd (there_not states t.items n state f e have.counted)
      by (Some items) (Some state) e f = all_dotted lists.productions (map bits_of t.sets) items state.items.vec.items (have.each n state items f e)

  -- so the tables have the contents of the states
  same_contents : AreTablesOf lists t (contents lists.terminals states) → (n : ℕ) → contents lists.terminals states n ≡ whole_contents lists t n
  same_contents are n = sym (ap (with_items (dotted_if lists.productions (slice_get t.items n))) (are.same n)
      ∙ ap (λ (items : List (Production × ℕ)). with_items items (contents lists.terminals states n)) (items_at n))

-- numbers of faithful states with their items are faithful with the items that they list
pub whole_numbers : (lists : Lists) (numbers : List ℕ) (states : List (State Bits)) (start : NonterminalString) → AreWholeNumbersOf lists numbers states → AreFaithful lists.productions start (contents lists.terminals states) → AreFaithfulWithItems lists start numbers
whole_numbers lists numbers states start are faithful = record {
  tables = are.tables;
  laid_out = are.laid_out;
  about = are.right.about;
  faithful = subst (AreFaithful lists.productions start) (fun_ext (λ (n : ℕ). same_contents lists are.tables states are.items are.right n)) faithful;
}
