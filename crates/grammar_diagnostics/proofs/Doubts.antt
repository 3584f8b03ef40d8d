-- The warnings that are found are those that hold.
use Rattle.std.proofs.Common.{◌≡◌, Bool, true, false, not, ◌&&◌, List, [], ◌∷◌, ◌++◌, Option, None, Some, option_map, inl, inr, map, refl, sym, ap, subst, ◌∙◌}
use Rattle.std.specs.Prelude.{Contains, ◌↔◌, find, is_some}
use Rattle.std.specs.List.{flat_map}
use Rattle.std.specs.BTreeMap.{IsOrdered}
use Rattle.std.specs.BTreeSet.{BTreeSet}
use Rattle.std.proofs.lemmas.List.Elements.{Contains-append_left, Contains-append_right, Contains-append_cases}
use Rattle.std.proofs.lemmas.Map.Views.{btree_set_contains_iff}
use Rattle.lalrpop_collections.proofs.theory.lists.Members.{Contains-none, contains_head, contains-cons, of_flat}
use Rattle.lalrpop_collections.proofs.theory.lists.Lists.{contains_map, contains_of_map, same_some}
use Rattle.lalrpop_collections.proofs.theory.lists.Bounded.{in_flat_map}
use Rattle.lalrpop_grammar.specs.declared.repr.NonterminalString.{NonterminalString}
use Rattle.lalrpop_grammar.specs.declared.repr.Production.{Production}
use Rattle.lalrpop_grammar.specs.declared.repr.grammar.NonterminalData.{NonterminalData}
use Rattle.lalrpop_grammar.specs.declared.repr.grammar.Grammar.{Grammar}
use Rattle.lalrpop_grammar.specs.Words.{IsWellFormed, name_cmp, productions, productions_of}
use Rattle.lalrpop_grammar.proofs.theory.first.FirstNames.{name_total}
use Rattle.lalrpop_grammar.proofs.theory.grammars.Grammars.{productions_own}
use Rattle.lalrpop_grammar.proofs.theory.grammars.NameOrders.{name_exact}
use Rattle.lalrpop_useful.specs.Words.{HasProduction, IsCyclic, IsFirstUse, IsProductive, IsReachable, IsRepeat, IsUndefined, names_of}
use Rattle.lalrpop_useful.proofs.theory.useful.Undefined.{no_production, production_of}
use Rattle.std.proofs.lemmas.List.Sorted.{Contains-permutation, IsPermutation-sym}
use Rattle.std.specs.Prelude.{IsPermutation}
use Rattle.grammar_text.specs.Lines.{is_empty}
use Rattle.grammar_diagnostics.specs.declared.warnings.Sets.{Sets}
use Rattle.grammar_diagnostics.specs.declared.warnings.Warning.{Warning as WarningWords}
use Rattle.grammar_diagnostics.specs.TextErrors.{option_list}
use Rattle.grammar_diagnostics.specs.Warnings.{Doubt, Undefined, Unreachable, Unproductive, Cyclic, NothingToInline, NeverInlined, Repeated, NoStart, StartUsed, IsMarkedAt, HasEntryAt, IsWarning, all_warnings, entry_warnings, set_has, has_use, is_defined, is_marked, repeat_warning, start_warnings, use_warning, warning_view, when}
use Rattle.grammar_diagnostics.proofs.Uses.{defined_has, first_found, found_first, has_marked, marked_has, none_found, not_defined, unused}

abbrev Entry : Type 0
Entry = NonterminalString × NonterminalData

-- ---- what a test puts into a list
when_from : (t : Bool) (x w : Doubt) → Contains (when t x) w → (t ≡ true) × (x ≡ w)
when_from true x w c = elim (contains-cons x [] w c) [ inl same ↦ (refl, same) | inr none ↦ absurd (Contains-none w none) ]
when_from false x w c = absurd (Contains-none w c)

when_there : (t : Bool) (x : Doubt) → t ≡ true → Contains (when t x) x
when_there true x h = contains_head x []
when_there false x h = cc

and_both : (a b : Bool) → (a && b) ≡ true → (a ≡ true) × (b ≡ true)
and_both true b h = (refl, h)
and_both false b h = cc

both_and : (a b : Bool) → a ≡ true → b ≡ true → (a && b) ≡ true
both_and true b h k = k
both_and false b h k = cc

not_true : (a : Bool) → not a ≡ true → a ≡ false
not_true true h = cc
not_true false h = refl

-- a test of something that does not hold
not_held : (a : Bool) (P : Type 0) → (a ≡ true → P) → (P → ⊥) → a ≡ false
not_held true P h k = absurd (k (h refl))
not_held false P h k = refl

true_or : (a : Bool) → (a ≡ false → ⊥) → a ≡ true
true_or true h = refl
true_or false h = absurd (h refl)

clash : (a : Bool) → a ≡ true → a ≡ false → ⊥
clash true h k = cc
clash false h k = cc

some_no : (o : Option Production) → is_some o ≡ false → o ≡ None
some_no None h = refl
some_no (Some p) h = cc

module _ (g : Grammar) (start : NonterminalString) (well : IsWellFormed g) (ordered : IsOrdered name_cmp g.nonterminals) (sets : Sets)
    (started : sets.has_start ≡ not (is_empty (productions_of g start)))
    (reached : (a : NonterminalString) → Contains sets.reachable.keys a ↔ IsReachable (productions g) start a)
    (productive : (a : NonterminalString) → Contains sets.productive.keys a ↔ IsProductive (productions g) a)
    (cyclic : (a : NonterminalString) → Contains sets.cyclic.keys a ↔ IsCyclic (productions g) a)
    (uses : List (NonterminalString × Production))
    (undefined : (a : NonterminalString) → Contains (names_of uses) a ↔ IsUndefined (productions g) a)
    (first : (a : NonterminalString) (p : Production) → Contains uses (a, p) → IsFirstUse (productions g) a p)
    (repeats : List (Production × Production))
    (repeated : (later first : Production) → Contains repeats (later, first) ↔ IsRepeat g later first) where
  abbrev ps : List Production
  ps = productions g

  abbrev Holds : Doubt → Type 0
  Holds w = IsWarning g start w

  held : (x w : Doubt) → x ≡ w → Holds x → Holds w
  held x w same h = subst Holds same h

  -- membership by the test, and by the definition
  is_in : (set : BTreeSet NonterminalString) (a : NonterminalString) → (set_has set a ≡ true) ↔ Contains set.keys a
  is_in set a = btree_set_contains_iff name_total name_exact set a

  out : (set : BTreeSet NonterminalString) (a : NonterminalString) (P : Type 0) → Contains set.keys a ↔ P → set_has set a ≡ false → P → ⊥
  out set a P iff lacks h = clash (set_has set a) ((is_in set a).1 (iff.1 h)) lacks

  outside : (set : BTreeSet NonterminalString) (a : NonterminalString) (P : Type 0) → Contains set.keys a ↔ P → (P → ⊥) → not (set_has set a) ≡ true
  outside set a P iff none = ap not (not_held (set_has set a) P (λ t. iff.0 ((is_in set a).0 t)) none)

  -- ---- the start symbol
  start_step : (qs : List Production) → productions_of g start ≡ qs → not (is_empty qs) ≡ true → HasProduction ps start
  start_step [] same h = cc
  start_step (q ∷ rest) same h = production_of g start well q rest same

  start_has : sets.has_start ≡ true → HasProduction ps start
  start_has h = start_step (productions_of g start) refl (sym started ∙ h)

  some_test : (qs : List Production) → (qs ≡ [] → ⊥) → not (is_empty qs) ≡ true
  some_test [] some = absurd (some refl)
  some_test (q ∷ rest) some = refl

  has_started : HasProduction ps start → sets.has_start ≡ true
  has_started h = started ∙ some_test (productions_of g start) (λ none. no_production g start (productions_own g well ordered) none h)

  -- ---- what is found holds
  use_holds : (w : Doubt) → Contains (map use_warning uses) w → Holds w
  use_holds w c =
      let r = contains_of_map use_warning uses w c in
      let named : Contains (names_of uses) r.0.0 = contains_map (λ (u : NonterminalString × Production). u.0) uses r.0 r.1 in
      held (use_warning r.0) w r.2 ((undefined r.0.0).0 named, first r.0.0 r.0.1 r.1)

  repeat_holds : (w : Doubt) → Contains (map repeat_warning repeats) w → Holds w
  repeat_holds w c =
      let r = contains_of_map repeat_warning repeats w c in
      held (repeat_warning r.0) w r.2 ((repeated r.0.0 r.0.1).0 r.1)

  module _ (e : Entry) (there : Contains g.nonterminals.entries e) where
    abbrev A : List Doubt
    A = when (sets.has_start && (is_defined e.1 && not (set_has sets.reachable e.0))) (Unreachable e.0 e.1.span)

    abbrev B : List Doubt
    B = when (is_defined e.1 && not (set_has sets.productive e.0)) (Unproductive e.0 e.1.span)

    abbrev C : List Doubt
    C = when (set_has sets.cyclic e.0) (Cyclic e.0 e.1.span)

    abbrev D : List Doubt
    D = when (is_marked e.1 && not (is_defined e.1)) (NothingToInline e.0 e.1.span)

    abbrev E : List Doubt
    E = when (is_marked e.1 && not (is_some (find (has_use e.0) ps))) (NeverInlined e.0 e.1.span)

    marked : is_marked e.1 ≡ true → IsMarkedAt g e.0 e.1.span
    marked t = record { entry = e.1; there = there; marked = marked_has e.1 t; at = refl }

    placed : HasEntryAt g e.0 e.1.span
    placed = record { entry = e.1; there = there; at = refl }

    entry_holds : (w : Doubt) → Contains (entry_warnings sets ps e) w → Holds w
    entry_holds w c = elim (Contains-append_cases A (B ++ (C ++ (D ++ E))) w c) [
      | inl a ↦
          let r = when_from _ (Unreachable e.0 e.1.span) w a in
          let s = and_both _ _ r.0 in
          let b = and_both _ _ s.1 in
          held (Unreachable e.0 e.1.span) w r.1 (start_has s.0, defined_has g well e there b.0, out sets.reachable e.0 _ (reached e.0) (not_true _ b.1), placed)
      | inr rest ↦ elim (Contains-append_cases B (C ++ (D ++ E)) w rest) [
        | inl a ↦
            let r = when_from _ (Unproductive e.0 e.1.span) w a in
            let b = and_both _ _ r.0 in
            held (Unproductive e.0 e.1.span) w r.1 (defined_has g well e there b.0, out sets.productive e.0 _ (productive e.0) (not_true _ b.1), placed)
        | inr rest ↦ elim (Contains-append_cases C (D ++ E) w rest) [
          | inl a ↦
              let r = when_from _ (Cyclic e.0 e.1.span) w a in
              held (Cyclic e.0 e.1.span) w r.1 ((cyclic e.0).0 ((is_in sets.cyclic e.0).0 r.0), placed)
          | inr rest ↦ elim (Contains-append_cases D E w rest) [
            | inl a ↦
                let r = when_from _ (NothingToInline e.0 e.1.span) w a in
                let b = and_both _ _ r.0 in
                held (NothingToInline e.0 e.1.span) w r.1 (marked b.0, not_defined g well ordered e.0 e.1 there (not_true _ b.1))
            | inr a ↦
                let r = when_from _ (NeverInlined e.0 e.1.span) w a in
                let b = and_both _ _ r.0 in
                held (NeverInlined e.0 e.1.span) w r.1 (marked b.0, none_found e.0 ps (some_no (find (has_use e.0) ps) (not_true _ b.1)))
          ]
        ]
      ]
    ]

    -- each doubt of an entry is among those of the entry
    in_a : Contains A (Unreachable e.0 e.1.span) → Contains (entry_warnings sets ps e) (Unreachable e.0 e.1.span)
    in_a c = Contains-append_left A (B ++ (C ++ (D ++ E))) (Unreachable e.0 e.1.span) c

    in_b : Contains B (Unproductive e.0 e.1.span) → Contains (entry_warnings sets ps e) (Unproductive e.0 e.1.span)
    in_b c = Contains-append_right A (B ++ (C ++ (D ++ E))) (Unproductive e.0 e.1.span) (Contains-append_left B (C ++ (D ++ E)) (Unproductive e.0 e.1.span) c)

    in_c : Contains C (Cyclic e.0 e.1.span) → Contains (entry_warnings sets ps e) (Cyclic e.0 e.1.span)
    in_c c = Contains-append_right A (B ++ (C ++ (D ++ E))) (Cyclic e.0 e.1.span) (Contains-append_right B (C ++ (D ++ E)) (Cyclic e.0 e.1.span) (Contains-append_left C (D ++ E) (Cyclic e.0 e.1.span) c))

    in_d : Contains D (NothingToInline e.0 e.1.span) → Contains (entry_warnings sets ps e) (NothingToInline e.0 e.1.span)
    in_d c = Contains-append_right A (B ++ (C ++ (D ++ E))) (NothingToInline e.0 e.1.span) (Contains-append_right B (C ++ (D ++ E)) (NothingToInline e.0 e.1.span) (Contains-append_right C (D ++ E) (NothingToInline e.0 e.1.span) (Contains-append_left D E (NothingToInline e.0 e.1.span) c)))

    in_e : Contains E (NeverInlined e.0 e.1.span) → Contains (entry_warnings sets ps e) (NeverInlined e.0 e.1.span)
    in_e c = Contains-append_right A (B ++ (C ++ (D ++ E))) (NeverInlined e.0 e.1.span) (Contains-append_right B (C ++ (D ++ E)) (NeverInlined e.0 e.1.span) (Contains-append_right C (D ++ E) (NeverInlined e.0 e.1.span) (Contains-append_right D E (NeverInlined e.0 e.1.span) c)))

  abbrev entries_part : List Doubt
  entries_part = flat_map (entry_warnings sets ps) g.nonterminals.entries

  entries_hold : (w : Doubt) → Contains entries_part w → Holds w
  entries_hold w c = let r = of_flat (entry_warnings sets ps) g.nonterminals.entries w c in entry_holds r.0 r.1 w r.2

  empty_list : (qs : List Production) → is_empty qs ≡ true → qs ≡ []
  empty_list [] h = refl
  empty_list (q ∷ qs) h = cc

  used_step : (o : Option Production) (w : Doubt) → find (has_use start) ps ≡ o → Contains (option_list (option_map StartUsed o)) w → Holds w
  used_step None w same c = absurd (Contains-none w c)
  used_step (Some p) w same c = elim (contains-cons (StartUsed p) [] w c) [
    | inl is ↦ held (StartUsed p) w is (first_found start ps p same)
    | inr none ↦ absurd (Contains-none w none)
  ]

  abbrev no_start : List Doubt
  no_start = when (is_empty (productions_of g start)) NoStart

  abbrev start_used : List Doubt
  start_used = option_list (option_map StartUsed (find (has_use start) ps))

  start_holds : (w : Doubt) → Contains (start_warnings g start) w → Holds w
  start_holds w c = elim (Contains-append_cases no_start start_used w c) [
    | inl a ↦
        let r = when_from _ NoStart w a in
        held NoStart w r.1 (no_production g start (productions_own g well ordered) (empty_list (productions_of g start) r.0))
    | inr a ↦ used_step (find (has_use start) ps) w refl a
  ]

  abbrev use_part : List Doubt
  use_part = map use_warning uses

  abbrev repeat_part : List Doubt
  repeat_part = map repeat_warning repeats

  abbrev found : List Doubt
  found = all_warnings g start sets uses repeats

  found_holds : (w : Doubt) → Contains found w → Holds w
  found_holds w c = elim (Contains-append_cases use_part (repeat_part ++ (entries_part ++ start_warnings g start)) w c) [
    | inl a ↦ use_holds w a
    | inr rest ↦ elim (Contains-append_cases repeat_part (entries_part ++ start_warnings g start) w rest) [
      | inl a ↦ repeat_holds w a
      | inr rest ↦ elim (Contains-append_cases entries_part (start_warnings g start) w rest) [ inl a ↦ entries_hold w a | inr a ↦ start_holds w a ]
    ]
  ]

  -- ---- what holds is found
  from_uses : (w : Doubt) → Contains use_part w → Contains found w
  from_uses w c = Contains-append_left use_part (repeat_part ++ (entries_part ++ start_warnings g start)) w c

  from_repeats : (w : Doubt) → Contains repeat_part w → Contains found w
  from_repeats w c = Contains-append_right use_part (repeat_part ++ (entries_part ++ start_warnings g start)) w (Contains-append_left repeat_part (entries_part ++ start_warnings g start) w c)

  from_rest : (w : Doubt) → Contains (entries_part ++ start_warnings g start) w → Contains found w
  from_rest w c = Contains-append_right use_part (repeat_part ++ (entries_part ++ start_warnings g start)) w (Contains-append_right repeat_part (entries_part ++ start_warnings g start) w c)

  from_entry : (e : Entry) (w : Doubt) → Contains g.nonterminals.entries e → Contains (entry_warnings sets ps e) w → Contains found w
  from_entry e w c d = from_rest w (Contains-append_left entries_part (start_warnings g start) w (in_flat_map (entry_warnings sets ps) g.nonterminals.entries e w c d))

  from_start : (w : Doubt) → Contains (start_warnings g start) w → Contains found w
  from_start w c = from_rest w (Contains-append_right entries_part (start_warnings g start) w c)

  same_use : (a : NonterminalString) (p q : Production) → IsFirstUse ps a p → IsFirstUse ps a q → p ≡ q
  same_use a p q f h = same_some (sym (found_first a ps p f) ∙ found_first a ps q h)

  empty_test : (qs : List Production) → ((q : Production) (rest : List Production) → qs ≡ q ∷ rest → ⊥) → is_empty qs ≡ true
  empty_test [] h = refl
  empty_test (q ∷ rest) h = absurd (h q rest refl)

  listed_there : (o : Option Production) (p : Production) → o ≡ Some p → Contains (option_list (option_map StartUsed o)) (StartUsed p)
  listed_there o p same = subst (λ (x : Option Production). Contains (option_list (option_map StartUsed x)) (StartUsed p)) (sym same) (contains_head (StartUsed p) [])

  -- the entry of a name that has a production has one
  is_defined_at : (a : NonterminalString) (entry : NonterminalData) → Contains g.nonterminals.entries (a, entry) → HasProduction ps a → is_defined entry ≡ true
  is_defined_at a entry c h = true_or (is_defined entry) (λ f. not_defined g well ordered a entry c f h)

  holds_found : (w : Doubt) → Holds w → Contains found w
  holds_found (Undefined a p) h =
      let r = contains_of_map (λ (u : NonterminalString × Production). u.0) uses a ((undefined a).1 h.0) in
      let f : IsFirstUse ps a r.0.1 = subst (λ n. IsFirstUse ps n r.0.1) r.2 (first r.0.0 r.0.1 r.1) in
      let there : Contains use_part (use_warning r.0) = contains_map use_warning uses r.0 r.1 in
      let named : Contains use_part (Undefined a r.0.1) = subst (λ n. Contains use_part (Undefined n r.0.1)) r.2 there in
      from_uses (Undefined a p) (subst (λ q. Contains use_part (Undefined a q)) (same_use a r.0.1 p f h.1) named)
  holds_found (Unreachable a span) h =
      let e = h.3 in
      let test = both_and sets.has_start (is_defined e.entry && not (set_has sets.reachable a)) (has_started h.0) (both_and (is_defined e.entry) (not (set_has sets.reachable a)) (is_defined_at a e.entry e.there h.1) (outside sets.reachable a _ (reached a) h.2)) in
      subst (λ at. Contains found (Unreachable a at)) e.at (from_entry (a, e.entry) (Unreachable a e.entry.span) e.there (in_a (a, e.entry) e.there (when_there _ (Unreachable a e.entry.span) test)))
  holds_found (Unproductive a span) h =
      let e = h.2 in
      let test = both_and (is_defined e.entry) (not (set_has sets.productive a)) (is_defined_at a e.entry e.there h.0) (outside sets.productive a _ (productive a) h.1) in
      subst (λ at. Contains found (Unproductive a at)) e.at (from_entry (a, e.entry) (Unproductive a e.entry.span) e.there (in_b (a, e.entry) e.there (when_there _ (Unproductive a e.entry.span) test)))
  holds_found (Cyclic a span) h =
      let e = h.1 in
      let test = (is_in sets.cyclic a).1 ((cyclic a).1 h.0) in
      subst (λ at. Contains found (Cyclic a at)) e.at (from_entry (a, e.entry) (Cyclic a e.entry.span) e.there (in_c (a, e.entry) e.there (when_there _ (Cyclic a e.entry.span) test)))
  holds_found (NothingToInline a span) h =
      let m = h.0 in
      let none = not_held (is_defined m.entry) (HasProduction ps a) (defined_has g well (a, m.entry) m.there) h.1 in
      let test = both_and (is_marked m.entry) (not (is_defined m.entry)) (has_marked m.entry m.marked) (ap not none) in
      subst (λ at. Contains found (NothingToInline a at)) m.at (from_entry (a, m.entry) (NothingToInline a m.entry.span) m.there (in_d (a, m.entry) m.there (when_there _ (NothingToInline a m.entry.span) test)))
  holds_found (NeverInlined a span) h =
      let m = h.0 in
      let none = ap (λ o. not (is_some o)) (unused a ps h.1) in
      let test = both_and (is_marked m.entry) (not (is_some (find (has_use a) ps))) (has_marked m.entry m.marked) none in
      subst (λ at. Contains found (NeverInlined a at)) m.at (from_entry (a, m.entry) (NeverInlined a m.entry.span) m.there (in_e (a, m.entry) m.there (when_there _ (NeverInlined a m.entry.span) test)))
  holds_found (Repeated later earlier) h = from_repeats (Repeated later earlier) (contains_map repeat_warning repeats (later, earlier) ((repeated later earlier).1 h))
  holds_found NoStart h =
      let test = empty_test (productions_of g start) (λ q rest same. h (production_of g start well q rest same)) in
      from_start NoStart (Contains-append_left no_start start_used NoStart (when_there _ NoStart test))
  holds_found (StartUsed p) h = from_start (StartUsed p) (Contains-append_right no_start start_used (StartUsed p) (listed_there (find (has_use start) ps) p (found_first start ps p h)))

  -- what is found is what holds
  pub found_iff : (w : Doubt) → Contains found w ↔ IsWarning g start w
  found_iff w = (found_holds w, holds_found w)

one_way : (xs ys : List WarningWords) (w : Doubt) → IsPermutation xs ys → Contains (map warning_view xs) w → Contains (map warning_view ys) w
one_way xs ys w same c =
    let r = contains_of_map warning_view xs w c in
    subst (Contains (map warning_view ys)) r.2 (contains_map warning_view ys r.0 (Contains-permutation xs ys r.0 same r.1))

-- warnings in another order are the same ones
pub sorted_iff : (g : Grammar) (start : NonterminalString) (xs ys : List WarningWords) → IsPermutation xs ys → ((w : Doubt) → Contains (map warning_view xs) w ↔ IsWarning g start w) → (w : Doubt) → Contains (map warning_view ys) w ↔ IsWarning g start w
sorted_iff g start xs ys same iff w = (
  λ c. (iff w).0 (one_way ys xs w (IsPermutation-sym xs ys same) c),
  λ h. one_way xs ys w same ((iff w).1 h),
)
