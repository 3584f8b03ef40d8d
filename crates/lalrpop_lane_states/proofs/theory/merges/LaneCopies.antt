-- Copies of states stay copies as further copies are made and edges are changed, and they are
-- coherent.
use Rattle.std.proofs.Common.{◌≡◌, ℕ, ◌+◌, ◌<◌, ◌≤◌, inl, inr, ◌==◌, Bool, true, false, cond, List, [], ◌∷◌, ◌++◌, length, map, Option, None, Some, slice_set, refl, sym, ap, subst, ◌∙◌, arith, suc, eqb-true, length-append}
use Rattle.std.specs.Prelude.{slice_get, unwrap_or, option_map, Contains}
use Rattle.std.specs.Borrow.{Bor}
use Rattle.std.specs.BTreeMap.{is_at}
use Rattle.std.specs.Map.{lookup}
use Rattle.std.proofs.lemmas.Bool.{cases_lt, cases_eq, cases_Bool}
use Rattle.std.proofs.lemmas.Map.Made.{lookup-map_values}
use Rattle.std.proofs.lemmas.Option.{slice_get_past, slice_get_within, slice_get_cases, slice_get-map}
use Rattle.lalrpop_base.specs.Words.{Bits, IsCoherentEdge, IsCoherentStep, StartsAtZero, HasItem, AreFinished, AreCoherent, holds_token, number_of, contents_of}
use Rattle.lalrpop_base.specs.Words.{contents_at, contents, IsCopying, EachEntry, Dotted, Contents, leads, name_cmp, number_in, retargeted, retargeted_all}
use Rattle.lalrpop_lane_states.proofs.Types.{Action, Production, State, StateIndex, Symbol, TerminalString}
use Rattle.lalrpop_grammar.specs.declared.repr.Symbol.TheVariants.{Nonterminal, Terminal}
use Rattle.lalrpop_collections.proofs.theory.lists.Lists.{some_of_map}
use Rattle.lalrpop_construction.specs.Words.{by}
use Rattle.lalrpop_state_graph.specs.Words.{index, AreReductionsOf, IsCopyOf, AreCopies}
use Rattle.lalrpop_lane_states.specs.Words.{replaced_number, IsTaken}
use Rattle.lalrpop_lane_states.proofs.theory.lane_states.LaneResolved.{by_all}
use Rattle.lalrpop_states.proofs.theory.collapse.Merging.{set_here, set_elsewhere, set_length}
use Rattle.lalrpop_grammar.proofs.theory.grammars.NameOrders.{terminal_order}
use Rattle.lalrpop_collections.proofs.theory.lists.Places.{same_some, slice_get-append_before, slice_get-push_at, slice_get-longer, push_cases, filled}
use Rattle.lr1_theory.proofs.theory.renumbering.Renumbered.{no_lead}
use Rattle.lalrpop_state_graph.proofs.theory.graphs.GraphCopies.{number_at}

pub number_past : (xs : List ℕ) (n : ℕ) → length xs ≤ n → number_in xs n ≡ n
number_past xs n l = ap (λ x. unwrap_or x n) (slice_get_past xs n l)

-- two functions that agree on a list map it alike
map_alike : {X Y : Type 0} (f g : X → Y) (xs : List X) → ((k : ℕ) (x : X) → slice_get xs k ≡ Some x → f x ≡ g x) → map f xs ≡ map g xs
map_alike f g [] h = refl
map_alike f g (x ∷ xs) h = ap (λ y. y ∷ map f xs) (h 0 x refl) ∙ ap (λ ys. g x ∷ ys) (map_alike f g xs (λ k y at. h (suc k) y at))

pub same_productions : (exact : Bool) (old new : List (Bits × Bor Production)) → AreReductionsOf exact old new → map by new ≡ map by old
same_productions true old new e = ap (map by) e
same_productions false old new e = e

module _ (exact : Bool) (handed : List (State Bits)) (originals : List ℕ) (states : List (State Bits)) (c : AreCopies exact handed originals states) where
  abbrev original : ℕ → ℕ
  original = number_in originals

  -- a number whose original was handed in is that of a state in the list
  within : (m : ℕ) (to : State Bits) → slice_get handed (original m) ≡ Some to → m < length states
  within m to at = elim (cases_lt m (length states)) [
    | inl l ↦ l
    | inr past ↦
        let l : length originals ≤ m = let n = c.counted in omega arith in
        let there : slice_get handed m ≡ Some to = ap (slice_get handed) (sym (number_past originals m l)) ∙ at in
        let w : m < length originals = slice_get_within originals m m (c.own m (slice_get_within handed m to there)) in
        absurd (omega arith)
  ]

  outside : (n : ℕ) → length states ≤ n → original n ≡ n
  outside n l = number_past originals n (let e = c.counted in omega arith)

  handed_outside : (n : ℕ) → length states ≤ n → slice_get handed n ≡ None
  handed_outside n l = elim (cases_lt n (length handed)) [
    | inl inside ↦ absurd (let w : n < length originals = slice_get_within originals n n (c.own n inside) in let e = c.counted in omega arith)
    | inr past ↦ slice_get_past handed n past
  ]

  zero_kept : (to : State Bits) → slice_get handed (original 0) ≡ Some to → original 0 ≡ 0
  zero_kept to at = number_at originals 0 0 (c.own 0 (let w = slice_get_within handed (original 0) to at in omega arith))

  -- ---- coherence
  step : (x : Symbol) (m : ℕ) (source : List (Dotted Bits)) → IsCoherentStep handed source x (original m) → IsCoherentStep states source x m
  step x m source s =
      let y = filled states m (within m s.to s.there) in
      let o = c.each m y.0 y.1 in
      let same : s.to ≡ o.0 = same_some s.to o.0 (sym s.there ∙ o.1) in
      record { to = y.0; there = y.1; came = subst (λ is. IsCoherentEdge source x is) (ap (λ (t : State Bits). t.items.vec.items) same ∙ sym o.2.items) s.came }

  moved_entry : {K : Type 0} (es fs : List (K × StateIndex)) → retargeted_all original fs ≡ es → (k : ℕ) (e : K × StateIndex) → slice_get fs k ≡ Some e → slice_get es k ≡ Some (e.0, retargeted original e.1)
  moved_entry {K} es fs same k e at =
      let f : K × StateIndex → K × StateIndex = λ d. (d.0, retargeted original d.1) in
      ap (λ xs. slice_get xs k) (sym same) ∙ slice_get-map f fs k ∙ ap (option_map f) at

  steps : {K : Type 0} (symbol : K → Symbol) (source target : List (Dotted Bits)) (es fs : List (K × StateIndex)) → target ≡ source → retargeted_all original fs ≡ es → EachEntry (λ k m. IsCoherentStep handed source (symbol k) m.0) es → EachEntry (λ k m. IsCoherentStep states target (symbol k) m.0) fs
  steps symbol source target es fs e same h k entry at =
      subst (λ is. IsCoherentStep states is (symbol entry.0) entry.1.0) (sym e) (step (symbol entry.0) entry.1.0 source (h k (entry.0, retargeted original entry.1) (moved_entry es fs same k entry at)))

  -- each edge leads into the list
  leads_within : {K : Type 0} (symbol : K → Symbol) (source : List (Dotted Bits)) (es fs : List (K × StateIndex)) → retargeted_all original fs ≡ es → EachEntry (λ k m. IsCoherentStep handed source (symbol k) m.0) es → (k : ℕ) (e : K × StateIndex) → slice_get fs k ≡ Some e → e.1.0 < length states
  leads_within symbol source es fs same h k e at = let s = h k (e.0, retargeted original e.1) (moved_entry es fs same k e at) in within e.1.0 s.to s.there

  finished_copy : (source target : List (Dotted Bits)) (old new : List (Bits × Bor Production)) → target ≡ source → map by new ≡ map by old → AreFinished source old → AreFinished target new
  finished_copy source target old new e same h k r at =
      let q = some_of_map by (slice_get old k) (by r) (sym (slice_get-map by old k) ∙ ap (λ ps. slice_get ps k) (sym same) ∙ slice_get-map by new k ∙ ap (option_map by) at) in
      subst (λ is. HasItem is (by r) (length (by r).symbols)) (sym e) (subst (λ (p : Production). HasItem source p (length p.symbols)) q.2 (h k q.0 q.1))

  pub copies_coherent : AreCoherent states
  copies_coherent n state at =
      let o = c.each n state at in
      let h = c.coherent (original n) o.0 o.1 in
      let items = o.2.items in
      record {
        numbered = o.2.numbered;
        start = λ z. subst StartsAtZero (sym items) (h.start (ap original z ∙ zero_kept o.0 (ap (λ m. slice_get handed (original m)) (sym z) ∙ o.1)));
        shifts = steps Terminal o.0.items.vec.items state.items.vec.items o.0.shifts.entries state.shifts.entries items o.2.shifts h.shifts;
        gotos = steps Nonterminal o.0.items.vec.items state.items.vec.items o.0.gotos.entries state.gotos.entries items o.2.gotos h.gotos;
        finished = finished_copy o.0.items.vec.items state.items.vec.items o.0.reductions.items state.reductions.items items (same_productions exact o.0.reductions.items state.reductions.items o.2.reductions) h.finished;
      }

  -- ---- in the terms of the definitions
  module _ (terminals : List TerminalString) where
    abbrev here : ℕ → Contents
    here = contents terminals states

    abbrev there : ℕ → Contents
    there = contents terminals handed

    abbrev at_option : Option (State Bits) → Contents
    at_option o = contents_at (holds_token terminals) o

    numbers : (o : Option StateIndex) → option_map number_of (option_map (retargeted original) o) ≡ option_map original (option_map number_of o)
    numbers None = refl
    numbers (Some target) = refl

    led : {K : Type 0} (test : K → Bool) (es fs : List (K × StateIndex)) → retargeted_all original fs ≡ es → option_map number_of (lookup test es) ≡ option_map original (option_map number_of (lookup test fs))
    led test es fs same = ap (λ xs. option_map number_of (lookup test xs)) (sym same) ∙ ap (option_map number_of) (lookup-map_values (retargeted original) test fs) ∙ numbers (lookup test fs)

    pub leads_copy : (n : ℕ) (old new : State Bits) → IsCopyOf exact original n old new → (x : Symbol) → leads (contents_of (holds_token terminals) old) x ≡ option_map original (leads (contents_of (holds_token terminals) new) x)
    leads_copy n old new copy (Terminal t) = led (is_at (terminal_order t)) old.shifts.entries new.shifts.entries copy.shifts
    leads_copy n old new copy (Nonterminal a) = led (is_at (name_cmp a)) old.gotos.entries new.gotos.entries copy.gotos

    nothing_there : (n : ℕ) → length states ≤ n → slice_get handed (original n) ≡ None
    nothing_there n l = ap (slice_get handed) (outside n l) ∙ handed_outside n l

    leads_there : (n : ℕ) (x : Symbol) → leads (there (original n)) x ≡ option_map original (leads (here n) x)
    leads_there n x = elim ((slice_get_cases states n).1) [
      | inl at ↦
          let o = c.each n at.0 at.2 in
          ap (λ s. leads (at_option s) x) o.1 ∙ leads_copy n o.0 at.0 o.2 x ∙ ap (λ s. option_map original (leads (at_option s) x)) (sym at.2)
      | inr past ↦
          ap (λ s. leads (at_option s) x) (nothing_there n past.0) ∙ no_lead terminals x ∙ ap (option_map original) (sym (no_lead terminals x)) ∙ ap (λ s. option_map original (leads (at_option s) x)) (sym past.1)
    ]

    items_there : (n : ℕ) → (here n).items ≡ (there (original n)).items
    items_there n = elim ((slice_get_cases states n).1) [
      | inl at ↦
          let o = c.each n at.0 at.2 in
          ap (λ s. (at_option s).items) at.2 ∙ ap (map (λ (i : Dotted Bits). (i.production, i.index))) o.2.items ∙ ap (λ s. (at_option s).items) (sym o.1)
      | inr past ↦ ap (λ s. (at_option s).items) past.1 ∙ ap (λ s. (at_option s).items) (sym (nothing_there n past.0))
    ]

    first_kept : original 0 ≡ 0
    first_kept = elim ((slice_get_cases states 0).1) [
      | inl at ↦ let o = c.each 0 at.0 at.2 in zero_kept o.0 o.1
      | inr past ↦ outside 0 past.0
    ]

    pub copies_copying : IsCopying original there here
    copies_copying = record {
      first = first_kept;
      items = λ n p dot. (
        λ h. subst (λ is. Contains is (p, dot)) (items_there n) h,
        λ h. subst (λ is. Contains is (p, dot)) (sym (items_there n)) h,
      );
      edges = λ n m x e. leads_there n x ∙ ap (option_map original) e;
      each = λ n k x e. let m = some_of_map original (leads (here n) x) k (sym (leads_there n x) ∙ e) in (m.0, m.1);
    }

  -- ---- a further copy
  module _ (o : ℕ) (source copy : State Bits) (at : slice_get states o ≡ Some source) (own : slice_get originals o ≡ Some o) (numbered : copy.index.0 ≡ length states) (items : copy.items.vec.items ≡ source.items.vec.items) (shifts : copy.shifts.entries ≡ source.shifts.entries) (reductions : copy.reductions.items ≡ source.reductions.items) (gotos : copy.gotos.entries ≡ source.gotos.entries) where
    abbrev longer : ℕ → ℕ
    longer = number_in (originals ++ o ∷ [])

    longer_below : (m : ℕ) → m < length states → longer m ≡ original m
    longer_below m l = ap (λ x. unwrap_or x m) (slice_get-append_before originals (o ∷ []) m (let e = c.counted in omega arith))

    longer_here : longer (length states) ≡ o
    longer_here = number_at (originals ++ o ∷ []) (length states) o (ap (slice_get (originals ++ o ∷ [])) (sym c.counted) ∙ slice_get-push_at originals o)

    same_targets : {K : Type 0} (symbol : K → Symbol) (from : List (Dotted Bits)) (es fs : List (K × StateIndex)) → retargeted_all original fs ≡ es → EachEntry (λ k m. IsCoherentStep handed from (symbol k) m.0) es → retargeted_all longer fs ≡ es
    same_targets {K} symbol from es fs same h =
        map_alike (λ (e : K × StateIndex). (e.0, retargeted longer e.1)) (λ (e : K × StateIndex). (e.0, retargeted original e.1)) fs
        (λ k e there. ap (λ n. (e.0, index n)) (longer_below e.1.0 (leads_within symbol from es fs same h k e there))) ∙ same

    copy_kept : (n : ℕ) (old new : State Bits) → slice_get handed (original n) ≡ Some old → IsCopyOf exact original n old new → IsCopyOf exact longer n old new
    copy_kept n old new there copy =
        let h = c.coherent (original n) old there in
        record {
          numbered = copy.numbered;
          items = copy.items;
          shifts = same_targets Terminal old.items.vec.items old.shifts.entries new.shifts.entries copy.shifts h.shifts;
          gotos = same_targets Nonterminal old.items.vec.items old.gotos.entries new.gotos.entries copy.gotos h.gotos;
          reductions = copy.reductions;
        }

    abbrev IsCopyAt : ℕ → State Bits → Type 0
    IsCopyAt n state = (before : State Bits) × (slice_get handed (longer n) ≡ Some before) × IsCopyOf exact longer n before state

    copy_itself : IsCopyAt (length states) copy
    copy_itself =
        let b = c.each o source at in
        let k = copy_kept o b.0 source b.1 b.2 in (
          b.0,
          ap (slice_get handed) (longer_here ∙ sym (number_at originals o o own)) ∙ b.1,
          record {
            numbered = numbered;
            items = items ∙ k.items;
            shifts = ap (retargeted_all longer) shifts ∙ k.shifts;
            gotos = ap (retargeted_all longer) gotos ∙ k.gotos;
            reductions = subst (λ rs. AreReductionsOf exact b.0.reductions.items rs) (sym reductions) k.reductions;
          },
        )

    copy_each : (n : ℕ) (state : State Bits) → slice_get (states ++ copy ∷ []) n ≡ Some state → IsCopyAt n state
    copy_each n state there = elim (push_cases states copy n state there) [
      | inl was ↦
          let b = c.each n state was in
          (b.0, ap (slice_get handed) (longer_below n (slice_get_within states n state was)) ∙ b.1, copy_kept n b.0 state b.1 b.2)
      | inr last ↦ subst (λ m. IsCopyAt m state) (sym last.0) (subst (IsCopyAt (length states)) last.1 copy_itself)
    ]

    pub copies_pushed : AreCopies exact handed (originals ++ o ∷ []) (states ++ copy ∷ [])
    copies_pushed = record {
      coherent = c.coherent;
      counted = length-append originals (o ∷ []) ∙ ap (λ n. n + 1) c.counted ∙ sym (length-append states (copy ∷ []));
      own = λ n l. slice_get-longer originals (o ∷ []) n n (c.own n l);
      each = copy_each;
    }

  -- ---- edges to a copy in the place of its original
  module _ (n a b : ℕ) (before after : State Bits) (at : slice_get states n ≡ Some before) (own : slice_get originals a ≡ Some a) (of : slice_get originals b ≡ Some a) (numbered : after.index ≡ before.index) (items : after.items ≡ before.items) (shifts : after.shifts.entries ≡ retargeted_all (replaced_number a b) before.shifts.entries) (reductions : after.reductions ≡ before.reductions) (gotos : after.gotos.entries ≡ retargeted_all (replaced_number a b) before.gotos.entries) where
    one_original : (m : ℕ) → original (replaced_number a b m) ≡ original m
    one_original m = elim (cases_Bool (m == a)) [
      | inl e ↦ ap (λ t. original (cond t b m)) e ∙ number_at originals b a of ∙ sym (number_at originals a a own) ∙ ap original (sym (eqb-true m a e))
      | inr e ↦ ap (λ t. original (cond t b m)) e
    ]

    one_target : {K : Type 0} (es : List (K × StateIndex)) → retargeted_all original (retargeted_all (replaced_number a b) es) ≡ retargeted_all original es
    one_target [] = refl
    one_target (e ∷ es) = ap (λ m. (e.0, index m) ∷ retargeted_all original (retargeted_all (replaced_number a b) es)) (one_original e.1.0) ∙ ap (λ xs. (e.0, retargeted original e.1) ∷ xs) (one_target es)

    patched_each : (k : ℕ) (state : State Bits) → slice_get (slice_set states n after) k ≡ Some state → (old : State Bits) × (slice_get handed (original k) ≡ Some old) × IsCopyOf exact original k old state
    patched_each k state there = elim (cases_eq k n) [
      | inl here ↦
          let o = c.each n before at in
          let same : after ≡ state = same_some after state (sym (ap (slice_get (slice_set states n after)) here ∙ set_here states n after (slice_get_within states n before at)) ∙ there) in
          let copy : IsCopyOf exact original n o.0 after = record {
            numbered = ap (λ (i : StateIndex). i.0) numbered ∙ o.2.numbered;
            items = ap (λ is. is.vec.items) items ∙ o.2.items;
            shifts = ap (retargeted_all original) shifts ∙ one_target before.shifts.entries ∙ o.2.shifts;
            gotos = ap (retargeted_all original) gotos ∙ one_target before.gotos.entries ∙ o.2.gotos;
            reductions = subst (λ rs. AreReductionsOf exact o.0.reductions.items rs.items) (sym reductions) o.2.reductions;
          } in
          (o.0, ap (λ m. slice_get handed (original m)) here ∙ o.1, subst (λ (s : State Bits). IsCopyOf exact original k o.0 s) same (subst (λ m. IsCopyOf exact original m o.0 after) (sym here) copy))
      | inr other ↦ c.each k state (sym (set_elsewhere states n k after other) ∙ there)
    ]

    pub copies_patched : AreCopies exact handed originals (slice_set states n after)
    copies_patched = record { coherent = c.coherent; counted = c.counted ∙ sym (set_length states n after); own = c.own; each = patched_each }

  -- ---- other tokens
  weaker : (n : ℕ) (old new : State Bits) → IsCopyOf exact original n old new → IsCopyOf false original n old new
  weaker n old new copy = record { numbered = copy.numbered; items = copy.items; shifts = copy.shifts; gotos = copy.gotos; reductions = same_productions exact old.reductions.items new.reductions.items copy.reductions }

  pub copies_weaker : AreCopies false handed originals states
  copies_weaker = record { coherent = c.coherent; counted = c.counted; own = c.own; each = λ n state at. let o = c.each n state at in (o.0, o.1, weaker n o.0 state o.2) }

-- the reductions of one state took their columns
pub copies_taken : (handed : List (State Bits)) (originals : List ℕ) (states new : List (State Bits)) (actions : List Action) (columns : List Bits) (n : ℕ) → AreCopies false handed originals states → IsTaken actions columns n states new → AreCopies false handed originals new
copies_taken handed originals states new actions columns n c t = record {
  coherent = c.coherent;
  counted = c.counted ∙ sym t.counted;
  own = c.own;
  each = λ k state there. elim (cases_eq k n) [
    | inl here ↦
        let o = c.each n t.before t.was in
        let same : t.after ≡ state = same_some t.after state (sym t.is ∙ ap (slice_get new) (sym here) ∙ there) in
        let copy : IsCopyOf false (number_in originals) n o.0 t.after = record {
          numbered = ap (λ (i : StateIndex). i.0) t.applied.index ∙ o.2.numbered;
          items = ap (λ is. is.vec.items) t.applied.items ∙ o.2.items;
          shifts = ap (λ es. retargeted_all (number_in originals) es.entries) t.applied.shifts ∙ o.2.shifts;
          gotos = ap (λ es. retargeted_all (number_in originals) es.entries) t.applied.gotos ∙ o.2.gotos;
          reductions = by_all t.before.reductions.items t.after.reductions.items t.applied.counted (λ j r q at_r at_q. ap (λ (b : Bor Production). b.now) (t.applied.each j r q at_r at_q).same) ∙ o.2.reductions;
        } in
        (o.0, ap (λ m. slice_get handed (number_in originals m)) here ∙ o.1, subst (λ (s : State Bits). IsCopyOf false (number_in originals) k o.0 s) same (subst (λ m. IsCopyOf false (number_in originals) m o.0 t.after) (sym here) copy))
    | inr other ↦ c.each k state (sym (t.others k other) ∙ there)
  ];
}

-- ---- before the first copy
module _ (originals : List ℕ) (states : List (State Bits)) (coherent : AreCoherent states) (counted : length originals ≡ length states) (own : (n : ℕ) → n < length states → slice_get originals n ≡ Some n) where
  own_targets : {K : Type 0} (es : List (K × StateIndex)) → ((k : ℕ) (e : K × StateIndex) → slice_get es k ≡ Some e → e.1.0 < length states) → retargeted_all (number_in originals) es ≡ es
  own_targets [] l = refl
  own_targets (e ∷ es) l =
      ap (λ m. (e.0, index m) ∷ retargeted_all (number_in originals) es) (number_at originals e.1.0 e.1.0 (own e.1.0 (l 0 e refl))) ∙ ap (λ xs. e ∷ xs) (own_targets es (λ k d at. l (suc k) d at))

  own_led : {K : Type 0} (symbol : K → Symbol) (source : List (Dotted Bits)) (es : List (K × StateIndex)) → EachEntry (λ k m. IsCoherentStep states source (symbol k) m.0) es → retargeted_all (number_in originals) es ≡ es
  own_led symbol source es h = own_targets es (λ k e at. let s = h k e at in slice_get_within states e.1.0 s.to s.there)

  pub copies_own : AreCopies true states originals states
  copies_own = record {
    coherent = coherent;
    counted = counted;
    own = own;
    each = λ n state at.
        let h = coherent n state at in (
          state,
          ap (slice_get states) (number_at originals n n (own n (slice_get_within states n state at))) ∙ at,
          record {
            numbered = h.numbered;
            items = refl;
            shifts = own_led Terminal state.items.vec.items state.shifts.entries h.shifts;
            gotos = own_led Nonterminal state.items.vec.items state.gotos.entries h.gotos;
            reductions = refl;
          },
        );
  }
