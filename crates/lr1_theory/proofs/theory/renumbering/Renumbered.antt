-- States in their new order, under the numbers that are their new places, are a renumbering.
use Rattle.std.proofs.Common.{◌≡◌, ℕ, ◌<◌, ◌≤◌, inl, inr, Bool, true, false, cond, not, ◌||◌, ◌==◌, List, [], ◌∷◌, length, map, refl, sym, ◌∙◌, ap, subst, arith, Option, Some, None, eq-eqb, eqb-true}
use Rattle.std.specs.Prelude.{slice_get, unwrap_or, option_map}
use Rattle.std.specs.BTreeMap.{btree_map_len, is_at}
use Rattle.std.specs.Map.{lookup}
use Rattle.std.proofs.lemmas.Bool.{cases_lt, cases_Bool, or_cases, or_right}
use Rattle.std.proofs.lemmas.Map.Made.{lookup-map_values}
use Rattle.std.proofs.lemmas.Option.{slice_get_past, slice_get_within, slice_get_cases, slice_get-map}
use Rattle.lalrpop_collections.specs.Words.{Bits}
use Rattle.lalrpop_states.specs.Words.{IsCoherentEdge, IsCoherentStep, StartsAtZero, AreFinished, AreCoherent, holds_token, number_of, reduction_of}
use Rattle.lalrpop_states.specs.Words.{contents_of, contents_at, contents, Dotted}
use Rattle.lalrpop_collections.specs.Words.{EachEntry}
use Rattle.lalrpop_grammar.specs.Words.{renumbered, IsRenumbering, HasGoto, PutsGotosFirst, Contents, leads, name_cmp}
use Rattle.lr1_theory.proofs.Types.{NonterminalString, State, StateIndex, Symbol, TerminalString}
use Rattle.lalrpop_grammar.specs.declared.repr.Symbol.TheVariants.{Nonterminal, Terminal}
use Rattle.lalrpop_collections.proofs.theory.lists.Lists.{some_of_map}
use Rattle.lalrpop_states.proofs.theory.states.HeldTokens.{same_test}
use Rattle.lalrpop_grammar.proofs.theory.first.FirstNames.{name_self}
use Rattle.lr1_theory.specs.Words.{AreMoved, retargeted, retargeted_all, IsRenumberedState, KeepsOrder, AreRenumbered, stands_first, number_in}
use Rattle.lalrpop_collections.specs.Words.{parted, new_place, ArePlaces}
use Rattle.lr1_theory.proofs.theory.renumbering.Moved.{Moved-length, Moved-at}
use Rattle.lalrpop_grammar.proofs.theory.grammars.NameOrders.{terminal_order}
use Rattle.lalrpop_collections.proofs.theory.lists.Partitions.{front_place, past_place, parted_length, stands_there, front_before_back, parts_keep_order, places_differ, place_taken}
use Rattle.lalrpop_collections.proofs.theory.lists.Places.{same_some, filled}

-- no symbol leads from a number without a state
pub no_lead : (terminals : List TerminalString) (x : Symbol) → leads (contents_at (holds_token terminals) None) x ≡ None
no_lead terminals (Terminal t) = refl
no_lead terminals (Nonterminal a) = refl

-- ---- transitions under new numbers
module _ (new : ℕ → ℕ) where
  numbers_after : (o : Option StateIndex) → option_map number_of (option_map (retargeted new) o) ≡ renumbered new (option_map number_of o)
  numbers_after None = refl
  numbers_after (Some target) = refl

  led_after : {K : Type 0} (test : K → Bool) (before after : List (K × StateIndex)) → after ≡ retargeted_all new before → option_map number_of (lookup test after) ≡ renumbered new (option_map number_of (lookup test before))
  led_after test before after e = ap (λ es. option_map number_of (lookup test es)) e ∙ ap (option_map number_of) (lookup-map_values (retargeted new) test before) ∙ numbers_after (lookup test before)

  -- under its new number a state leads to the new numbers of its old targets
  pub leads_after : (terminals : List TerminalString) (before after : State Bits) → IsRenumberedState new before after → (x : Symbol) → leads (contents_of (holds_token terminals) after) x ≡ renumbered new (leads (contents_of (holds_token terminals) before) x)
  leads_after terminals before after r (Terminal t) = led_after (is_at (terminal_order t)) before.shifts.entries after.shifts.entries r.shifts
  leads_after terminals before after r (Nonterminal a) = led_after (is_at (name_cmp a)) before.gotos.entries after.gotos.entries r.gotos

  -- each entry under new numbers comes from an old entry
  pub entry_from : {K : Type 0} (before after : List (K × StateIndex)) → after ≡ retargeted_all new before → (k : ℕ) (e : K × StateIndex) → slice_get after k ≡ Some e → (d : K × StateIndex) × (slice_get before k ≡ Some d) × (d.0 ≡ e.0) × (retargeted new d.1 ≡ e.1)
  entry_from {K} before after same k e at =
      let f : K × StateIndex → K × StateIndex = λ d. (d.0, retargeted new d.1) in
      let d = some_of_map f (slice_get before k) e (sym (slice_get-map f before k) ∙ ap (λ es. slice_get es k) (sym same) ∙ at) in
      (d.0, d.1, ap (λ (x : K × StateIndex). x.0) d.2, ap (λ (x : K × StateIndex). x.1) d.2)

-- ---- states with a goto
first_found : (a : NonterminalString) (target : StateIndex) (es : List (NonterminalString × StateIndex)) → lookup (is_at (name_cmp a)) ((a, target) ∷ es) ≡ Some target
first_found a target es = ap (λ b. cond b (Some target) (lookup (is_at (name_cmp a)) es)) (name_self a)

some_goto : (terminals : List TerminalString) (state : State Bits) (es : List (NonterminalString × StateIndex)) → state.gotos.entries ≡ es → (length es == 0) ≡ false → HasGoto (contents_of (holds_token terminals) state)
some_goto terminals state [] e h = cc
some_goto terminals state ((a, target) ∷ es) e h = (a, target.0, ap (option_map number_of) (ap (lookup (is_at (name_cmp a))) e ∙ first_found a target es))

a_goto : (terminals : List TerminalString) (state : State Bits) (es : List (NonterminalString × StateIndex)) → state.gotos.entries ≡ es → HasGoto (contents_of (holds_token terminals) state) → (length es == 0) ≡ false
a_goto terminals state [] e h = let none : option_map number_of (lookup (is_at (name_cmp h.0)) state.gotos.entries) ≡ None = ap (λ (es : List (NonterminalString × StateIndex)). option_map number_of (lookup (is_at (name_cmp h.0)) es)) e in cc
a_goto terminals state (d ∷ es) e h = elim (cases_Bool (length (d ∷ es) == 0)) [
  | inl none ↦ absurd (let n = eqb-true (length (d ∷ es)) 0 none in omega arith)
  | inr some ↦ some
]

module _ (terminals : List TerminalString) (state : State Bits) where
  abbrev has_gotos : Bool
  has_gotos = not (btree_map_len state.gotos == 0)

  first_by_goto : HasGoto (contents_of (holds_token terminals) state) → stands_first state ≡ true
  first_by_goto h = ap (λ b. (state.index.0 == 0) || not b) (a_goto terminals state state.gotos.entries refl h) ∙ or_right (state.index.0 == 0) true refl

  goto_of_first : (state.index.0 ≡ 0 → ⊥) → stands_first state ≡ true → HasGoto (contents_of (holds_token terminals) state)
  goto_of_first out h = elim (or_cases (state.index.0 == 0) has_gotos h) [
    | inl zero_index ↦ absurd (out (eqb-true state.index.0 0 zero_index))
    | inr some ↦ some_goto terminals state state.gotos.entries refl (turned (btree_map_len state.gotos == 0) some)
  ]
    where
      turned : (b : Bool) → not b ≡ true → b ≡ false
      turned true e = cc
      turned false e = refl

-- ---- all states
module _ (terminals : List TerminalString) (before after : List (State Bits)) (numbers : List ℕ) (coherent : AreCoherent before) (places : ArePlaces stands_first before (length before) numbers) (moved : AreMoved (number_in numbers) (parted stands_first before) after) where
  abbrev new : ℕ → ℕ
  new = number_in numbers

  -- the new number is the new place
  placed : (n : ℕ) → new n ≡ new_place stands_first before n
  placed n = elim (cases_lt n (length before)) [
    | inl inside ↦ ap (λ o. unwrap_or o n) (places.each n inside)
    | inr past ↦ ap (λ o. unwrap_or o n) (slice_get_past numbers n (let c = places.counted in omega arith)) ∙ sym (past_place stands_first before n past)
  ]

  old : ℕ → ℕ
  old n = (place_taken stands_first before n).0

  new_old : (n : ℕ) → new (old n) ≡ n
  unfolding old
  new_old n = placed (old n) ∙ (place_taken stands_first before n).1

  old_new : (n : ℕ) → old (new n) ≡ n
  old_new n = places_differ stands_first before (old (new n)) n (sym (placed (old (new n))) ∙ new_old (new n) ∙ placed n)

  counted : length after ≡ length before
  counted = Moved-length new moved ∙ parted_length stands_first before

  outside : (n : ℕ) → length before ≤ n → new n ≡ n
  outside n l = placed n ∙ past_place stands_first before n l

  moved_to : (n : ℕ) (state : State Bits) → slice_get before n ≡ Some state → (t : State Bits) × (slice_get after (new n) ≡ Some t) × IsRenumberedState new state t
  moved_to n state at = Moved-at new moved (new n) state (ap (slice_get (parted stands_first before)) (placed n) ∙ stands_there stands_first before n state at)

  first_first : (state : State Bits) → slice_get before 0 ≡ Some state → stands_first state ≡ true
  first_first state at = ap (λ b. b || not (btree_map_len state.gotos == 0)) (eq-eqb state.index.0 0 (coherent 0 state at).numbered)

  fixes : new 0 ≡ 0
  fixes = elim ((slice_get_cases before 0).1) [
    | inl at ↦ placed 0 ∙ front_place stands_first before 0 at.0 at.2 (first_first at.0 at.2)
    | inr past ↦ outside 0 past.0
  ]

  not_zero : (n : ℕ) (state : State Bits) → 0 < n → slice_get before n ≡ Some state → state.index.0 ≡ 0 → ⊥
  not_zero n state l at e = let k = (coherent n state at).numbered in omega arith

  -- ---- the contents of the state with each number
  abbrev here : ℕ → Contents
  here = contents terminals before

  abbrev there : ℕ → Contents
  there = contents terminals after

  abbrev at_option : Option (State Bits) → Contents
  at_option o = contents_at (holds_token terminals) o

  past_after : (n : ℕ) → length before ≤ n → slice_get after (new n) ≡ None
  past_after n l = let c = counted in let o = outside n l in slice_get_past after (new n) (omega arith)

  commutes : (n : ℕ) (x : Symbol) → leads (there (new n)) x ≡ renumbered new (leads (here n) x)
  commutes n x = elim ((slice_get_cases before n).1) [
    | inl at ↦
        let t = moved_to n at.0 at.2 in
        ap (λ o. leads (at_option o) x) t.1 ∙ leads_after new terminals at.0 t.0 t.2 x ∙ ap (λ o. renumbered new (leads (at_option o) x)) (sym at.2)
    | inr past ↦
        ap (λ o. leads (at_option o) x) (past_after n past.0) ∙ no_lead terminals x ∙ ap (renumbered new) (sym (no_lead terminals x)) ∙ ap (λ o. renumbered new (leads (at_option o) x)) (sym past.1)
  ]

  same_items : (n : ℕ) → (there (new n)).items ≡ (here n).items
  same_items n = elim ((slice_get_cases before n).1) [
    | inl at ↦
        let t = moved_to n at.0 at.2 in
        ap (λ o. (at_option o).items) t.1 ∙ ap (λ is. map (λ (i : Dotted Bits). (i.production, i.index)) is.vec.items) t.2.items ∙ ap (λ o. (at_option o).items) (sym at.2)
    | inr past ↦ ap (λ o. (at_option o).items) (past_after n past.0) ∙ ap (λ o. (at_option o).items) (sym past.1)
  ]

  same_reductions : (n : ℕ) → (there (new n)).reductions ≡ (here n).reductions
  same_reductions n = elim ((slice_get_cases before n).1) [
    | inl at ↦
        let t = moved_to n at.0 at.2 in
        ap (λ o. (at_option o).reductions) t.1 ∙ ap (λ rs. map (reduction_of (holds_token terminals)) rs.items) t.2.reductions ∙ ap (λ o. (at_option o).reductions) (sym at.2)
    | inr past ↦ ap (λ o. (at_option o).reductions) (past_after n past.0) ∙ ap (λ o. (at_option o).reductions) (sym past.1)
  ]

  renumbering : IsRenumbering new old here there
  renumbering = record { there = old_new; back = new_old; fixes = fixes; commutes = commutes; items = same_items; reductions = same_reductions }

  -- ---- the order
  goto_inside : (n : ℕ) (state : State Bits) → slice_get before n ≡ Some state → HasGoto (here n) → stands_first state ≡ true
  goto_inside n state at h = first_by_goto terminals state (subst (λ (o : Option (State Bits)). HasGoto (at_option o)) at h)

  inside_goto : (n : ℕ) (state : State Bits) → 0 < n → slice_get before n ≡ Some state → stands_first state ≡ true → HasGoto (here n)
  inside_goto n state l at h = subst (λ (o : Option (State Bits)). HasGoto (at_option o)) (sym at) (goto_of_first terminals state (not_zero n state l at) h)

  kept : KeepsOrder new terminals before
  kept n m l less within alike =
      let x = filled before n (omega arith) in
      let y = filled before m within in
      let k : new_place stands_first before n < new_place stands_first before m = parts_keep_order stands_first before n m x.0 y.0 x.1 y.1 (same_test (stands_first x.0) (stands_first y.0) (
        λ h. goto_inside m y.0 y.1 (alike.0 (inside_goto n x.0 l x.1 h)),
        λ h. goto_inside n x.0 x.1 (alike.1 (inside_goto m y.0 (omega arith) y.1 h)),
      )) less in
      let a = placed n in
      let b = placed m in
      omega arith

  goto_back : (n : ℕ) → HasGoto (there n) → HasGoto (here (old n))
  goto_back n h =
      let e : leads (there n) (Nonterminal h.0) ≡ renumbered new (leads (here (old n)) (Nonterminal h.0)) = ap (λ (m : ℕ). leads (there m) (Nonterminal h.0)) (sym (new_old n)) ∙ commutes (old n) (Nonterminal h.0) in
      let k = of_renumbered (leads (here (old n)) (Nonterminal h.0)) h.1 (sym e ∙ h.2) in
      (h.0, k.0, k.1)
    where
      of_renumbered : (o : Option ℕ) (m : ℕ) → renumbered new o ≡ Some m → (k : ℕ) × (o ≡ Some k)
      of_renumbered None m e = cc
      of_renumbered (Some k) m e = (k, refl)

  goto_on : (n : ℕ) → HasGoto (here (old n)) → HasGoto (there n)
  goto_on n h =
      let e : leads (there n) (Nonterminal h.0) ≡ renumbered new (leads (here (old n)) (Nonterminal h.0)) = ap (λ (m : ℕ). leads (there m) (Nonterminal h.0)) (sym (new_old n)) ∙ commutes (old n) (Nonterminal h.0) in
      (h.0, new h.1, e ∙ ap (renumbered new) h.2)

  old_within : (n : ℕ) → n < length after → old n < length before
  old_within n l = elim (cases_lt (old n) (length before)) [
    | inl inside ↦ inside
    | inr past ↦ absurd (let o = outside (old n) past in let b = new_old n in let c = counted in omega arith)
  ]

  old_positive : (n : ℕ) → 0 < n → 0 < old n
  old_positive n l = elim (cases_lt 0 (old n)) [
    | inl positive ↦ positive
    | inr none ↦ absurd (let z : old n ≡ 0 = omega arith in let b : new 0 ≡ n = ap new (sym z) ∙ new_old n in let f = fixes in omega arith)
  ]

  gotos_first : PutsGotosFirst (length after) there
  gotos_first n m l less within h =
      let x = filled before (old n) (old_within n (omega arith)) in
      let y = filled before (old m) (old_within m within) in
      let later = goto_inside (old m) y.0 y.1 (goto_back m h) in
      elim (cases_Bool (stands_first x.0)) [
        | inl first ↦ goto_on n (inside_goto (old n) x.0 (old_positive n l) x.1 first)
        | inr behind ↦
            let k = front_before_back stands_first before (old m) (old n) y.0 x.0 y.1 x.1 later behind in
            let a = placed (old n) in
            let b = placed (old m) in
            let c = new_old n in
            let d = new_old m in
            absurd (omega arith)
      ]

  -- ---- coherence
  step : (source target : List (Dotted Bits)) (x : Symbol) (m : ℕ) → target ≡ source → IsCoherentStep before source x m → IsCoherentStep after target x (new m)
  step source target x m e s =
      let t = moved_to m s.to s.there in
      let came = subst (λ (is : List (Dotted Bits)). IsCoherentEdge is x s.to.items.vec.items) (sym e) s.came in
      record { to = t.0; there = t.1; came = subst (λ is. IsCoherentEdge target x is.vec.items) (sym t.2.items) came }

  steps : {K : Type 0} (symbol : K → Symbol) (source target : List (Dotted Bits)) (es fs : List (K × StateIndex)) → target ≡ source → fs ≡ retargeted_all new es → EachEntry (λ k m. IsCoherentStep before source (symbol k) m.0) es → EachEntry (λ k m. IsCoherentStep after target (symbol k) m.0) fs
  steps {K} symbol source target es fs e f h k entry at =
      let d = entry_from new es fs f k entry at in
      subst (λ (m : StateIndex). IsCoherentStep after target (symbol entry.0) m.0) d.3
      (subst (λ (key : K). IsCoherentStep after target (symbol key) (new d.0.1.0)) d.2
      (step source target (symbol d.0.0) d.0.1.0 e (h k d.0 d.1)))

  coherent_after : AreCoherent after
  coherent_after place state at =
      let x = filled before (old place) (old_within place (slice_get_within after place state at)) in
      let c = coherent (old place) x.0 x.1 in
      let t = moved_to (old place) x.0 x.1 in
      let same : t.0 ≡ state = same_some t.0 state (sym t.1 ∙ ap (slice_get after) (new_old place) ∙ at) in
      let r : IsRenumberedState new x.0 state = subst (IsRenumberedState new x.0) same t.2 in
      let items : state.items.vec.items ≡ x.0.items.vec.items = ap (λ is. is.vec.items) r.items in
      record {
        numbered = ap (λ (i : StateIndex). i.0) r.index ∙ ap new c.numbered ∙ new_old place;
        start = λ zero_place. subst (λ is. StartsAtZero is.vec.items) (sym r.items) (c.start (ap old (zero_place ∙ sym fixes) ∙ old_new 0));
        shifts = steps Terminal x.0.items.vec.items state.items.vec.items x.0.shifts.entries state.shifts.entries items r.shifts c.shifts;
        gotos = steps Nonterminal x.0.items.vec.items state.items.vec.items x.0.gotos.entries state.gotos.entries items r.gotos c.gotos;
        finished = subst (λ is. AreFinished is.vec.items state.reductions.items) (sym r.items) (subst (λ rs. AreFinished x.0.items.vec.items rs.items) (sym r.reductions) c.finished);
      }

  pub States-renumbered : AreRenumbered terminals before after
  States-renumbered = record {
    new = new;
    old = old;
    renumbering = renumbering;
    counted = counted;
    outside = outside;
    gotos_first = gotos_first;
    kept = kept;
    each = moved_to;
    coherent = coherent_after;
  }
