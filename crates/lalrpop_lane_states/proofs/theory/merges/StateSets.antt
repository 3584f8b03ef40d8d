-- Sets of states that are joined, and sets that are made.
use Rattle.std.proofs.Common.{◌≡◌, ◌<◌, inl, inr, ◌==◌, Bool, true, false, cond, List, [], ◌∷◌, ◌++◌, length, map, Some, slice_set, refl, sym, ap, subst, ◌∙◌, arith, eq-eqb, length-append}
use Rattle.std.specs.Prelude.{slice_get, unwrap_or, option_map, Contains}
use Rattle.std.specs.BTreeMap.{is_at, Updates}
use Rattle.std.specs.Cmp.{Equal-is}
use Rattle.std.specs.Map.{keys_of, lookup}
use Rattle.std.specs.Ordering.{is_eq}
use Rattle.std.proofs.lemmas.List.{map-append}
use Rattle.std.proofs.lemmas.List.Elements.{Contains-append_left, Contains-push_cases, Contains-push}
use Rattle.std.proofs.lemmas.Bool.{cases_Bool, cases_eq}
use Rattle.std.proofs.lemmas.Map.Made.{lookup-map_values}
use Rattle.std.proofs.lemmas.Option.{slice_get_within}
use Rattle.lalrpop_base.specs.Words.{Bits}
use Rattle.lalrpop_lane_states.proofs.Types.{StateIndex}
use Rattle.lalrpop_lanes.specs.Words.{Rows}
use Rattle.lalrpop_state_graph.specs.Words.{state_cmp}
use Rattle.lalrpop_lane_states.specs.Words.{set_of, columns_of, context_of, HasSet, IsJoint, AreJoined, IsMade, AddsColumns, OwnSets, replaced_set, replaced_entry}
use Rattle.lalrpop_lane_states.specs.declared.lane_table.construct.merge.context_sets.ContextSets.{ContextSets}
use Rattle.lalrpop_lane_states.specs.declared.lane_table.construct.state_set.StateSet.{StateSet}
use Rattle.lalrpop_lanes.proofs.theory.lane_tables.LaneTables.{state_exact}
use Rattle.lalrpop_collections.proofs.theory.lists.Members.{Contains-none}
use Rattle.lalrpop_states.proofs.theory.collapse.Merging.{set_here, set_elsewhere, set_length}
use Rattle.lalrpop_collections.proofs.theory.lists.Places.{same_some, slice_get-push_at}

-- if the columns of a state's set are read, these are the columns of the state
pub columns_at : (sets : ContextSets) (state : StateIndex) (set : StateSet) (columns : List Bits) → set_of sets state ≡ Some set → slice_get sets.contexts.items set.index ≡ Some columns → context_of sets state ≡ columns
columns_at sets state set columns is at = ap (columns_of sets.contexts.items) is ∙ ap (λ o. unwrap_or o []) at

pub listed_at : (sets : ContextSets) (state : StateIndex) (set : StateSet) → HasSet sets state → set_of sets state ≡ Some set → set.index < length sets.contexts.items
listed_at sets state set h is = subst (λ (s : StateSet). s.index < length sets.contexts.items) (same_some h.set set (sym h.is ∙ is)) h.listed

replaced_own : (old new : StateSet) → replaced_set old new old ≡ new
replaced_own old new = ap (λ b. cond b new old) (eq-eqb old.index old.index refl)

replaced_new : (old new : StateSet) → replaced_set old new new ≡ new
replaced_new old new = elim (cases_Bool (new.index == old.index)) [ inl e ↦ ap (λ b. cond b new new) e | inr e ↦ ap (λ b. cond b new new) e ]

-- ---- the sets of two states become one
module _ (source target : StateIndex) (old new : ContextSets) (first second : StateSet) (a b union : List Bits) (at_source : set_of old source ≡ Some first) (at_target : set_of old target ≡ Some second)
    (at_first : slice_get old.contexts.items first.index ≡ Some a) (at_second : slice_get old.contexts.items second.index ≡ Some b)
    (joint : IsJoint a b union) (written : new.contexts.items ≡ slice_set old.contexts.items first.index union) (entries : new.state_sets.entries ≡ map (replaced_entry second first) old.state_sets.entries) where
  new_set : (n : StateIndex) → set_of new n ≡ option_map (replaced_set second first) (set_of old n)
  new_set n = ap (lookup (is_at (state_cmp n))) entries ∙ lookup-map_values (replaced_set second first) (is_at (state_cmp n)) old.state_sets.entries

  first_listed : first.index < length old.contexts.items
  first_listed = slice_get_within old.contexts.items first.index a at_first

  counted : length new.contexts.items ≡ length old.contexts.items
  counted = ap length written ∙ set_length old.contexts.items first.index union

  replaced_listed : (set : StateSet) (t : Bool) → set.index < length old.contexts.items → (cond t first set).index < length old.contexts.items
  replaced_listed set true l = first_listed
  replaced_listed set false l = l

  pub sets_joined : AreJoined source target old new
  sets_joined = record {
    counted = counted;
    same = new_set source ∙ ap (option_map (replaced_set second first)) at_source ∙ ap Some (replaced_new second first ∙ sym (replaced_own second first)) ∙ sym (ap (option_map (replaced_set second first)) at_target) ∙ sym (new_set target);
    kept = λ n m e. new_set n ∙ ap (option_map (replaced_set second first)) e ∙ sym (new_set m);
    has = λ n h. record {
      set = replaced_set second first h.set;
      is = new_set n ∙ ap (option_map (replaced_set second first)) h.is;
      listed = subst (λ k. (replaced_set second first h.set).index < k) (sym counted) (replaced_listed h.set (h.set.index == second.index) h.listed);
    };
    columns = λ k columns at. elim (cases_eq k first.index) [
      | inl here ↦
          let is : union ≡ columns = same_some union columns (sym (ap (λ xs. slice_get xs k) written ∙ ap (slice_get (slice_set old.contexts.items first.index union)) here ∙ set_here old.contexts.items first.index union first_listed) ∙ at) in
          inr (subst (λ (c : List Bits). IsJoint (context_of old source) (context_of old target) c) is
          (subst (λ (x : List Bits). IsJoint x (context_of old target) union) (sym (columns_at old source first a at_source at_first))
          (subst (λ (y : List Bits). IsJoint a y union) (sym (columns_at old target second b at_target at_second)) joint)))
      | inr other ↦ inl (sym (ap (λ xs. slice_get xs k) written ∙ set_elsewhere old.contexts.items first.index k union other) ∙ at)
    ];
  }

-- ---- a set of one state
other_state : (n m : StateIndex) → (n ≡ m → ⊥) → is_eq (state_cmp m n) ≡ false
other_state n m other = elim (cases_Bool (is_eq (state_cmp m n))) [
  | inl tied ↦ absurd (other (sym (state_exact m n ((Equal-is (state_cmp m n)).0 tied))))
  | inr apart ↦ apart
]

pub set_made : (state : StateIndex) (context : List Bits) (old new : ContextSets) (set : StateSet) → set.index ≡ length old.contexts.items → new.contexts.items ≡ old.contexts.items ++ context ∷ [] → Updates state_cmp old.state_sets new.state_sets state (Some set) → IsMade state context old new
set_made state context old new set numbered pushed updates = record {
  has = record { set = set; is = updates.1; listed = let l = ap length pushed ∙ length-append old.contexts.items (context ∷ []) in omega arith };
  own = columns_at new state set context updates.1 (ap (slice_get new.contexts.items) numbered ∙ ap (λ (xs : List (List Bits)). slice_get xs (length old.contexts.items)) pushed ∙ slice_get-push_at old.contexts.items context);
  others = λ n other. updates.2 n (other_state n state other);
}

-- ---- a set for each row
pub own_none : (sets : ContextSets) → sets.contexts.items ≡ [] → OwnSets [] sets
own_none sets none = record {
  has = λ state c. absurd (Contains-none state c);
  columns = λ k columns at. absurd (let l = slice_get_within sets.contexts.items k columns at in let e = ap length none in omega arith);
}

pub own_more : (rows : Rows) (state : StateIndex) (row : List Bits) (old new : ContextSets) → OwnSets rows old → IsMade state row old new → AddsColumns row old new → OwnSets (rows ++ (state, row) ∷ []) new
own_more rows state row old new own made adds = record {
  has = λ n c. elim (cases_eq n.0 state.0) [
    | inl same ↦ subst (HasSet new) (sym (ap (λ m. record { 0 = m }) same)) made.has
    | inr other ↦
        let differs : n ≡ state → ⊥ = λ e. other (ap (λ (i : StateIndex). i.0) e) in
        elim (Contains-push_cases (keys_of rows) state n (subst (λ ks. Contains ks n) (map-append (λ (e : StateIndex × List Bits). e.0) rows ((state, row) ∷ [])) c)) [
          | inl was ↦ let h = own.has n was in record { set = h.set; is = made.others n differs ∙ h.is; listed = let l = h.listed in let k = adds.counted in omega arith }
          | inr e ↦ absurd (differs (sym e))
        ]
  ];
  columns = λ k columns at. elim (adds.columns k columns at) [
    | inl was ↦ let r = own.columns k columns was in (r.0, Contains-append_left rows ((state, row) ∷ []) (r.0, columns) r.1)
    | inr is ↦ (state, subst (λ (c : List Bits). Contains (rows ++ (state, row) ∷ []) (state, c)) (sym is) (Contains-push rows (state, row)))
  ];
}
